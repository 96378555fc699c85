-- A transaction was read under a policy and schemes: declared names, and numbers of operands.
use Rattle.std.specs.Prelude.{◌≡◌, ℕ, ◌+◌, ◌<◌, ◌≤◌, true, false, nat_eq, List, [], ◌∷◌, map, length, bytes_eq}
use Rattle.std.specs.List.{AllByRecursion, IsDistinct, list_any}
use Rattle.mls_lattice.specs.Labels.{below}
use Rattle.mls_lattice.specs.Policy.{Policy, labels_of}
use Rattle.mls_scheme.specs.Scheme.{Attribute, Scheme, Schemes, scheme_of}
use Rattle.mls_translang.specs.Tree.{Expr, Field, No, Op, Writing, Insert, Update, Delete, Stmt, Assign, Write_at}
use Rattle.mls_translang.specs.Tree.{Release, Emit, Block, End, Do, If, For}
use Rattle.mls_translang.specs.Scope.{Scope, in_loop, row_at}
use Rattle.mls_translang.specs.declared.row.LoopRow.{LoopRow}
use Rattle.mls_translang.specs.Tx.{Tx, scope_of, HasOwn}
use Rattle.mls_translang.specs.Kinds.{BlockKinds, Truth, HasSort}

-- a number of a declared label
abbrev pub IsLabel : Policy → ℕ → Type 0
IsLabel policy label = label < length policy.labels

-- ---- attributes of rows, the key first

abbrev pub width : Scheme → ℕ
width scheme = length scheme.keys + length scheme.others

-- ---- expressions

module _ (schemes : Schemes) where
  -- its attributes are those of its rows
  abbrev pub ExprFits : Scope → Expr → Type 0
  ExprFits s (Field d i) = i < width (scheme_of schemes (row_at s d).relation)
  ExprFits s (No e) = ExprFits s e
  ExprFits s (Op op left right) = ExprFits s left × ExprFits s right
  ExprFits s _ = Unit {0}

  -- one expression for each attribute
  pub record ListFits (s : Scope) (attributes : List Attribute) (es : List Expr) : Type 0 where
    pub count : length es ≡ length attributes
    pub each : AllByRecursion (ExprFits s) es

  -- at least one attribute outside the key is named, and none twice
  pub record SetsFit (s : Scope) (scheme : Scheme) (sets : List (ℕ × Expr)) : Type 0 where
    pub some : 0 < length sets
    pub each : AllByRecursion (λ x. (x.0 < length scheme.others) × ExprFits s x.1) sets
    pub apart : IsDistinct nat_eq (map (λ x. x.0) sets)

-- ---- conditions

abbrev pub row_of : Schemes → ℕ → LoopRow
row_of schemes relation = record { name = (scheme_of schemes relation).name; relation = relation }

-- one row, by the name of its relation
abbrev pub row_scope : Schemes → ℕ → Scope
row_scope schemes relation = record { params = []; vars = []; rows = row_of schemes relation ∷ [] }

-- a truth value of one row of a relation, which names nothing else
pub record IsConditionOf (schemes : Schemes) (relation : ℕ) (e : Expr) : Type 0 where
  pub own : HasOwn (row_scope schemes relation) e
  pub fits : ExprFits schemes (row_scope schemes relation) e
  pub truth : HasSort schemes (row_scope schemes relation) Truth e

-- ---- statements, under a ceiling

module _ (policy : Policy) (schemes : Schemes) (hi : ℕ) where
  abbrev pub WritingFits : Scope → Scheme → Writing → Type 0
  WritingFits s scheme (Insert key values) = ListFits schemes s scheme.keys key
      × ListFits schemes s scheme.others values
  WritingFits s scheme (Update key key_class from sets) =
      ListFits schemes s scheme.keys key × IsLabel policy key_class × IsLabel policy from
      × SetsFit schemes s scheme sets
  WritingFits s scheme (Delete key key_class) = ListFits schemes s scheme.keys key × IsLabel policy key_class

  abbrev pub StmtFits : Scope → Stmt → Type 0
  StmtFits s (Assign x e) = ExprFits schemes s e
  StmtFits s (Write_at relation w writing outcome) = (relation < length schemes) × IsLabel policy w
      × WritingFits s (scheme_of schemes relation) writing
  StmtFits s (Release e to into) = ExprFits schemes s e × IsLabel policy to × (below (labels_of policy) to hi ≡ true)
  StmtFits s (Emit e label) = ExprFits schemes s e × IsLabel policy label

  abbrev pub BlockFits : Scope → Block → Type 0
  BlockFits s End = Unit {0}
  BlockFits s (Do stmt rest) = StmtFits s stmt × BlockFits s rest
  BlockFits s (If guard one other rest) = ExprFits schemes s guard × BlockFits s one × BlockFits s other
      × BlockFits s rest
  BlockFits s (For row relation label body rest) = (relation < length schemes) × IsLabel policy label
      × BlockFits (in_loop s row relation) body × BlockFits s rest

-- ---- transactions

-- read under both: the one condition on a transaction
pub record IsReadUnder (policy : Policy) (schemes : Schemes) (tx : Tx) : Type 0 where
  pub lo : IsLabel policy tx.lo
  pub hi : IsLabel policy tx.hi
  pub interval : below (labels_of policy) tx.lo tx.hi ≡ true
  pub params : AllByRecursion (λ p. IsLabel policy p.1.label) tx.params
  pub no_relation : list_any (λ s. bytes_eq s.name tx.name) schemes ≡ false
  pub fits : BlockFits policy schemes tx.hi (scope_of tx) tx.body
  pub kinds : BlockKinds schemes (scope_of tx) tx.body

-- transactions of one text: no two have one name
pub record AreReadUnder (policy : Policy) (schemes : Schemes) (txs : List Tx) : Type 0 where
  pub few : length txs ≤ 64
  pub each : AllByRecursion (IsReadUnder policy schemes) txs
  pub apart : IsDistinct bytes_eq (map (λ tx. tx.name) txs)
