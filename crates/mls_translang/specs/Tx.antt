-- Transactions, and what holds of every one: names, counts, depths, and numbers of its own lists.
use Rattle.std.specs.Prelude.{◌≡◌, ℕ, ◌+◌, ◌<◌, ◌≤◌, max, true, List, [], length, FitsSigned, IfSome, bytes_eq}
use Rattle.std.specs.Int.{w64}
use Rattle.std.specs.List.{AllByRecursion, IsDistinct}
use Rattle.mls_lattice.specs.Name.{is_name}
use Rattle.mls_lattice.specs.Policy.{Name}
use Rattle.mls_scheme.specs.declared.value.Kind.{Kind}
use Rattle.mls_scheme.specs.declared.value.Value.{Value}
use Rattle.mls_scheme.specs.declared.value.Value.TheVariants.{Int, Text}
use Rattle.mls_tokens.specs.Writing.{IsText}
use Rattle.mls_translang.specs.declared.tx.Parameter.{Parameter}
use Rattle.mls_translang.specs.Scope.{Scope, in_loop, names_in, IsFresh}
use Rattle.mls_translang.specs.Tree.{Expr, Known, Null, Var, Param, Field, No, Op, Writing, Insert, Update, Delete}
use Rattle.mls_translang.specs.Tree.{Stmt, Assign, Write_at, Release, Emit, Block, End, Do, If, For, statements}

-- lo and hi are numbers of labels
pub record Tx : Type 0 where
  pub name : Name
  pub lo : ℕ
  pub hi : ℕ
  pub params : List (Name × Parameter)
  pub vars : List (Name × Kind)
  pub body : Block

-- ---- depths

-- how many operators and `not` stand inside one another
abbrev pub nesting : Expr → ℕ
nesting (No e) = 1 + nesting e
nesting (Op op left right) = 1 + max (nesting left) (nesting right)
nesting _ = 0

-- how many statements stand inside one another
abbrev pub depth : Block → ℕ
depth End = 0
depth (Do stmt rest) = max 1 (depth rest)
depth (If guard one other rest) = max (1 + max (depth one) (depth other)) (depth rest)
depth (For row relation label body rest) = max (1 + depth body) (depth rest)

-- ---- numbers and names

-- a number of 64 signed bits, or a text that can be written between quotes
abbrev pub IsLiteral : Value → Type 0
IsLiteral (Int n) = FitsSigned w64 n
IsLiteral (Text s) = IsText s

-- its numbers are those of variables, parameters and rows around
abbrev pub HasOwn : Scope → Expr → Type 0
HasOwn s (Known v) = IsLiteral v
HasOwn s Null = Unit {0}
HasOwn s (Var i) = i < length s.vars
HasOwn s (Param i) = i < length s.params
HasOwn s (Field d i) = d < length s.rows
HasOwn s (No e) = HasOwn s e
HasOwn s (Op op left right) = HasOwn s left × HasOwn s right

-- an expression of a statement
pub record IsOwn (s : Scope) (e : Expr) : Type 0 where
  pub nesting : nesting e ≤ 16
  pub numbers : HasOwn s e

abbrev pub WritingIsOwn : Scope → Writing → Type 0
WritingIsOwn s (Insert key values) = AllByRecursion (IsOwn s) key × AllByRecursion (IsOwn s) values
WritingIsOwn s (Update key key_class from sets) = AllByRecursion (IsOwn s) key × AllByRecursion (λ x. IsOwn s x.1) sets
WritingIsOwn s (Delete key key_class) = AllByRecursion (IsOwn s) key

abbrev pub StmtIsOwn : Scope → Stmt → Type 0
StmtIsOwn s (Assign x e) = (x < length s.vars) × IsOwn s e
StmtIsOwn s (Write_at relation w writing outcome) = WritingIsOwn s writing × IfSome outcome (λ x. x < length s.vars)
StmtIsOwn s (Release e to into) = IsOwn s e × (into < length s.vars)
StmtIsOwn s (Emit e label) = IsOwn s e

abbrev pub BlockIsOwn : Scope → Block → Type 0
BlockIsOwn s End = Unit {0}
BlockIsOwn s (Do stmt rest) = StmtIsOwn s stmt × BlockIsOwn s rest
BlockIsOwn s (If guard one other rest) = IsOwn s guard × BlockIsOwn s one × BlockIsOwn s other × BlockIsOwn s rest
BlockIsOwn s (For row relation label body rest) = IsFresh s row × BlockIsOwn (in_loop s row relation) body
    × BlockIsOwn s rest

-- outside loops
abbrev pub scope_of : Tx → Scope
scope_of tx = record { params = tx.params; vars = tx.vars; rows = [] }

pub record IsTx (tx : Tx) : Type 0 where
  pub name : is_name tx.name ≡ true
  pub names : AllByRecursion (λ n. is_name n ≡ true) (names_in (scope_of tx))
  pub apart : IsDistinct bytes_eq (names_in (scope_of tx))
  pub few_params : length tx.params ≤ 64
  pub few_vars : length tx.vars ≤ 64
  pub few_statements : statements tx.body ≤ 1000
  pub shallow : depth tx.body ≤ 16
  pub own : BlockIsOwn (scope_of tx) tx.body
