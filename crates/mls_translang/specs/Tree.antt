-- Transactions as plain data.
use Rattle.std.specs.Prelude.{ℕ, ◌+◌, Bool, true, false, Option}
use Rattle.mls_lattice.specs.Policy.{Name}
use Rattle.mls_scheme.specs.declared.value.Value.{Value}
use Rattle.mls_scheme.specs.declared.write.Write.{Write}
pub use Rattle.mls_scheme.specs.declared.write.Write.TheVariants.{Insert, Update, Delete}
use Rattle.mls_translang.specs.declared.operator.Operator.{Operator}

-- a loop's row is named by how many loops stand between, the innermost 0; its attributes by number, the key first
pub data Expr : Type 0 where
  Known : (value : Value) → Expr
  Null : Expr
  Var : (number : ℕ) → Expr
  Param : (number : ℕ) → Expr
  Field : (depth attribute : ℕ) → Expr
  No : (e : Expr) → Expr
  Op : (op : Operator) (left right : Expr) → Expr

-- a write whose operands are expressions: one statement for all three, so that inductions are short
abbrev pub Writing : Type 0
Writing = Write Expr

-- a statement with no statement inside
pub data Stmt : Type 0 where
  Assign : (var : ℕ) (value : Expr) → Stmt
  Write_at : (relation w : ℕ) (writing : Writing) (outcome : Option ℕ) → Stmt
  Release : (value : Expr) (to into : ℕ) → Stmt
  Emit : (value : Expr) (label : ℕ) → Stmt

-- statements, each with the rest behind it; a loop's row has a name
pub data Block : Type 0 where
  End : Block
  Do : (stmt : Stmt) (rest : Block) → Block
  If : (guard : Expr) (one other rest : Block) → Block
  For : (row : Name) (relation label : ℕ) (body rest : Block) → Block

-- how many statements there are, in the order of the text: a statement before those inside
abbrev pub statements : Block → ℕ
statements End = 0
statements (Do stmt rest) = 1 + statements rest
statements (If guard one other rest) = 1 + statements one + statements other + statements rest
statements (For row relation label body rest) = 1 + statements body + statements rest

-- no statement
abbrev pub is_end : Block → Bool
is_end End = true
is_end _ = false
