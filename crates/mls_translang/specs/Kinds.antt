-- Kinds of expressions, under schemes.
use Rattle.std.specs.Prelude.{◌≡◌, ℕ, ◌-◌, true, if◌then◌else◌, nat_lt, List, length, Some, slice_index_or, IfSome}
use Rattle.std.specs.List.{AllByRecursion, AllZip}
use Rattle.mls_scheme.specs.Scheme.{Attribute, Scheme, Schemes, scheme_of, other_of, no_attribute}
use Rattle.mls_scheme.specs.Value.{is_kind}
use Rattle.mls_scheme.specs.declared.value.Kind.{Kind}
use Rattle.mls_scheme.specs.declared.value.Kind.TheVariants as kinds
use Rattle.mls_translang.specs.declared.operator.Operator.{Operator}
use Rattle.mls_translang.specs.declared.operator.Operator.TheVariants as operators
use Rattle.mls_translang.specs.Tree.{Expr, Known, Null, Var, Param, Field, No, Op, Writing, Insert, Update, Delete}
use Rattle.mls_translang.specs.Tree.{Stmt, Assign, Write_at, Release, Emit, Block, End, Do, If, For}
use Rattle.mls_translang.specs.Scope.{Scope, in_loop, row_at, kind_of_var, kind_of_param}

-- what an expression gives: a value of a kind or null, or a truth value
pub data Sort : Type 0 where
  Of : (kind : Kind) → Sort
  Truth : Sort

-- what an operator gives of operands of a sort
abbrev pub OperatorGives : Operator → Sort → (Sort → Type 0) → Type 0
OperatorGives operators.Plus s operands = (s ≡ Of kinds.Int) × operands (Of kinds.Int)
OperatorGives operators.Minus s operands = (s ≡ Of kinds.Int) × operands (Of kinds.Int)
OperatorGives operators.Times s operands = (s ≡ Of kinds.Int) × operands (Of kinds.Int)
OperatorGives operators.And s operands = (s ≡ Truth) × operands Truth
OperatorGives operators.Or s operands = (s ≡ Truth) × operands Truth
OperatorGives _ s operands = (s ≡ Truth) × ((k : Kind) × operands (Of k))

-- an attribute of a row by number, the key first
abbrev pub field_of : Scheme → ℕ → Attribute
field_of scheme i =
    if nat_lt i (length scheme.keys) then slice_index_or scheme.keys i no_attribute else other_of scheme
    (i - length scheme.keys)

module _ (schemes : Schemes) where
  abbrev pub HasSort : Scope → Sort → Expr → Type 0
  HasSort s (Of k) (Known v) = is_kind v k ≡ true
  HasSort s Truth (Known v) = ⊥
  HasSort s (Of k) Null = Unit {0}
  HasSort s Truth Null = ⊥
  HasSort s t (Var i) = (k : Kind) × (t ≡ Of k) × (kind_of_var s i ≡ Some k)
  HasSort s t (Param i) = (k : Kind) × (t ≡ Of k) × (kind_of_param s i ≡ Some k)
  HasSort s t (Field d i) = t ≡ Of (field_of (scheme_of schemes (row_at s d).relation) i).1.kind
  HasSort s t (No e) = (t ≡ Truth) × HasSort s Truth e
  HasSort s t (Op op left right) = OperatorGives op t (λ u. HasSort s u left × HasSort s u right)

  -- an expression that gives a value of a kind, or null
  abbrev pub HasKind : Scope → Kind → Expr → Type 0
  HasKind s k e = HasSort s (Of k) e

  abbrev pub HaveKinds : Scope → List Attribute → List Expr → Type 0
  HaveKinds s = AllZip (λ a e. HasKind s a.1.kind e)

  abbrev pub WritingKinds : Scope → Scheme → Writing → Type 0
  WritingKinds s scheme (Insert key values) = HaveKinds s scheme.keys key × HaveKinds s scheme.others values
  WritingKinds s scheme (Update key key_class from sets) =
      HaveKinds s scheme.keys key × AllByRecursion (λ x. HasKind s (other_of scheme x.0).1.kind x.1) sets
  WritingKinds s scheme (Delete key key_class) = HaveKinds s scheme.keys key

  -- what is assigned to a variable has its kind
  abbrev pub Assigns : Scope → ℕ → Expr → Type 0
  Assigns s x e = (k : Kind) × (kind_of_var s x ≡ Some k) × HasKind s k e

  -- outcomes are numbers
  abbrev pub StmtKinds : Scope → Stmt → Type 0
  StmtKinds s (Assign x e) = Assigns s x e
  StmtKinds s (Write_at relation w writing outcome) =
      WritingKinds s (scheme_of schemes relation) writing × IfSome outcome (λ x. kind_of_var s x ≡ Some kinds.Int)
  StmtKinds s (Release e to into) = Assigns s into e
  StmtKinds s (Emit e label) = (k : Kind) × HasKind s k e

  abbrev pub BlockKinds : Scope → Block → Type 0
  BlockKinds s End = Unit {0}
  BlockKinds s (Do stmt rest) = StmtKinds s stmt × BlockKinds s rest
  BlockKinds s (If guard one other rest) = HasSort s Truth guard × BlockKinds s one × BlockKinds s other
      × BlockKinds s rest
  BlockKinds s (For row relation label body rest) = BlockKinds (in_loop s row relation) body × BlockKinds s rest
