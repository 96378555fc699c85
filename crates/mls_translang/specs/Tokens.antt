-- The tokens of a transaction's text, in the words of the tree.
use Rattle.std.specs.Prelude.{ℕ, List, [], ◌∷◌, ◌++◌, codes, Option, None, Some, option_map, slice_get, if◌then◌else◌}
use Rattle.std.specs.Prelude.{unwrap_or, flat_map}
use Rattle.mls_lattice.specs.Policy.{Name, Policy}
use Rattle.mls_lattice.specs.Canon.{label_name}
use Rattle.mls_scheme.specs.declared.value.Value.{Value}
use Rattle.mls_scheme.specs.declared.value.Value.TheVariants as values
use Rattle.mls_scheme.specs.declared.value.Kind.{Kind}
use Rattle.mls_scheme.specs.Scheme.{Scheme, Schemes, scheme_of, other_of}
use Rattle.mls_scheme.specs.Document.{kind_word}
use Rattle.mls_tokens.specs.declared.token.Token.{Token}
use Rattle.mls_tokens.specs.Text.{separated}
use Rattle.mls_tokens.specs.declared.token.Token.TheVariants.{Word, Int, Text, Sign}
use Rattle.mls_tokens.specs.declared.sign.Sign.TheVariants as sign
use Rattle.mls_translang.specs.declared.operator.Operator.{Operator}
use Rattle.mls_translang.specs.declared.operator.Operator.TheVariants as operators
use Rattle.mls_translang.specs.declared.row.LoopRow.{LoopRow}
use Rattle.mls_translang.specs.declared.tx.Parameter.{Parameter}
use Rattle.mls_translang.specs.Tree.{Expr, Known, Null, Var, Param, Field, No, Op, Writing, Insert, Update, Delete}
use Rattle.mls_translang.specs.Tree.{Stmt, Assign, Write_at, Release, Emit, Block, End, Do, If, For, is_end}
use Rattle.mls_translang.specs.Scope.{Scope, in_loop, row_at}
use Rattle.mls_translang.specs.Kinds.{field_of}
use Rattle.mls_translang.specs.Tx.{Tx, scope_of}
use Rattle.mls_translang.specs.Layout.{layout}

-- ---- names

-- the name of a number in a list of things by name
abbrev pub name_at : {T : Type 0} → List (Name × T) → ℕ → Name
name_at xs i = unwrap_or (option_map (λ x. x.0) (slice_get xs i)) []

-- what a text is written under, its ceiling, and the names at its place
pub record Context : Type 0 where
  pub policy : Policy
  pub schemes : Schemes
  pub hi : ℕ
  pub scope : Scope

abbrev pub at_row : Context → Name → ℕ → Context
at_row p row relation = record p { scope = in_loop p.scope row relation }

abbrev pub with_rows : Context → List LoopRow → Context
with_rows p rows = record p { scope = record { params = p.scope.params; vars = p.scope.vars; rows = rows } }

abbrev pub var_token : Context → ℕ → Token
var_token p i = Word (name_at p.scope.vars i)

abbrev pub label_token : Context → ℕ → Token
label_token p label = Word (label_name p.policy.labels label)

abbrev pub rel_token : Context → ℕ → Token
rel_token p relation = Word (scheme_of p.schemes relation).name

-- ---- expressions

abbrev pub value_token : Value → Token
value_token (values.Int n) = Int n
value_token (values.Text s) = Text s

abbrev pub operator_token : Operator → Token
operator_token operators.Plus = Sign sign.Plus
operator_token operators.Minus = Sign sign.Minus
operator_token operators.Times = Sign sign.Times
operator_token operators.Equal = Sign sign.Equals
operator_token operators.Unequal = Sign sign.Differs
operator_token operators.Less = Sign sign.Less
operator_token operators.AtMost = Sign sign.AtMost
operator_token operators.Greater = Sign sign.Greater
operator_token operators.AtLeast = Sign sign.AtLeast
operator_token operators.And = Word (codes "and")
operator_token operators.Or = Word (codes "or")

-- ROW.ATTRIBUTE
abbrev pub field_tokens : Context → ℕ → ℕ → List Token
field_tokens p d i = Word (row_at p.scope d).name ∷ Sign sign.Dot
    ∷ Word (field_of (scheme_of p.schemes (row_at p.scope d).relation) i).0 ∷ []

-- each operation in its own parentheses
abbrev pub expr_tokens : Context → Expr → List Token
expr_tokens p (Known v) = value_token v ∷ []
expr_tokens p Null = Word (codes "null") ∷ []
expr_tokens p (Var i) = var_token p i ∷ []
expr_tokens p (Param i) = Word (name_at p.scope.params i) ∷ []
expr_tokens p (Field d i) = field_tokens p d i
expr_tokens p (No e) = Word (codes "not") ∷ expr_tokens p e
expr_tokens p (Op op left right) =
    Sign sign.LeftParen ∷ (expr_tokens p left ++ (operator_token op ∷ (expr_tokens p right ++ Sign sign.RightParen
    ∷ [])))

abbrev pub list_tokens : Context → List Expr → List Token
list_tokens p es = Sign sign.LeftParen ∷ (separated (expr_tokens p) es ++ Sign sign.RightParen ∷ [])

-- ---- statements

-- ATTRIBUTE = EXPR, of an attribute outside the key
abbrev pub set_tokens : Context → Scheme → ℕ × Expr → List Token
set_tokens p scheme s = Word (other_of scheme s.0).0 ∷ Sign sign.Equals ∷ expr_tokens p s.1

-- the variable of an outcome, if there is one
abbrev pub outcome_tokens : Context → Option ℕ → List Token
outcome_tokens p None = []
outcome_tokens p (Some x) = Word (codes "as") ∷ var_token p x ∷ []

-- at LABEL, the outcome, and the end
abbrev pub write_end : Context → ℕ → List Token → List Token
write_end p w rest = Word (codes "at") ∷ label_token p w ∷ rest

abbrev pub stmt_end : Context → Option ℕ → List Token
stmt_end p outcome = outcome_tokens p outcome ++ Sign sign.Semicolon ∷ []

-- what each write begins with
abbrev pub head_tokens : Context → Name → ℕ → List Expr → List Token
head_tokens p word relation key = Word word ∷ rel_token p relation ∷ Word (codes "key") ∷ list_tokens p key

-- class KEY_CLASS from FROM at W
abbrev pub class_tokens : Context → ℕ → ℕ → ℕ → List Token
class_tokens p key_class from w =
    Word (codes "class") ∷ label_token p key_class ∷ Word (codes "from") ∷ label_token p from ∷ Word (codes "at")
    ∷ label_token p w ∷ []

-- set SETS, the outcome, and the end
abbrev pub update_end : Context → ℕ → List (ℕ × Expr) → Option ℕ → List Token
update_end p relation sets outcome = Word (codes "set") ∷ (separated (set_tokens p (scheme_of p.schemes relation)) sets
    ++ stmt_end p outcome)

abbrev pub write_tokens : Context → ℕ → ℕ → Option ℕ → Writing → List Token
write_tokens p relation w outcome (Insert key values) =
    head_tokens p (codes "insert") relation key ++ (Word (codes "values") ∷ (list_tokens p values ++ write_end p w
    (stmt_end p outcome)))
write_tokens p relation w outcome (Update key key_class from sets) =
    head_tokens p (codes "update") relation key
    ++ (class_tokens p key_class from w ++ update_end p relation sets outcome)
write_tokens p relation w outcome (Delete key key_class) =
    head_tokens p (codes "delete") relation key ++ (Word (codes "class") ∷ label_token p key_class ∷ write_end p w
    (stmt_end p outcome))

abbrev pub stmt_tokens : Context → Stmt → List Token
stmt_tokens p (Assign x e) = var_token p x ∷ Sign sign.Becomes ∷ (expr_tokens p e ++ Sign sign.Semicolon ∷ [])
stmt_tokens p (Write_at relation w writing outcome) = write_tokens p relation w outcome writing
stmt_tokens p (Release e to into) =
    Word (codes "release") ∷ (expr_tokens p e ++ (Word (codes "to") ∷ label_token p to ∷ Word (codes "into")
    ∷ var_token p into ∷ Sign sign.Semicolon ∷ []))
stmt_tokens p (Emit e label) =
    Word (codes "emit") ∷ (expr_tokens p e ++ (Word (codes "at") ∷ label_token p label ∷ Sign sign.Semicolon ∷ []))

-- no else without statements
abbrev pub else_tokens : Block → List Token → List Token
else_tokens other tokens = if is_end other then [] else Word (codes "else") ∷ tokens

-- for ROW in RELATION at LABEL
abbrev pub for_tokens : Context → Name → ℕ → ℕ → List Token
for_tokens p row relation label = Word (codes "for") ∷ Word row ∷ Word (codes "in") ∷ rel_token p relation
    ∷ Word (codes "at") ∷ label_token p label ∷ []

abbrev pub braced : List Token → List Token
braced tokens = Sign sign.LeftBrace ∷ (tokens ++ Sign sign.RightBrace ∷ [])

abbrev pub block_tokens : Context → Block → List Token
block_tokens p End = []
block_tokens p (Do stmt rest) = stmt_tokens p stmt ++ block_tokens p rest
block_tokens p (If guard one other rest) =
    Word (codes "if") ∷ (expr_tokens p guard ++ (braced (block_tokens p one)
    ++ (else_tokens other (braced (block_tokens p other)) ++ block_tokens p rest)))
block_tokens p (For row relation label body rest) =
    for_tokens p row relation label ++ (braced (block_tokens (at_row p row relation) body) ++ block_tokens p rest)

-- ---- transactions

abbrev pub kind_token : Kind → Token
kind_token k = Word (kind_word k)

-- NAME : KIND at LABEL
abbrev pub param_tokens : Context → Name × Parameter → List Token
param_tokens p x = Word x.0 ∷ Sign sign.Colon ∷ kind_token x.1.kind ∷ Word (codes "at") ∷ label_token p x.1.label ∷ []

abbrev pub params_tokens : Context → List (Name × Parameter) → List Token
params_tokens p xs = Sign sign.LeftParen ∷ (separated (param_tokens p) xs ++ Sign sign.RightParen ∷ [])

-- var NAME : KIND ;
abbrev pub var_tokens : Name × Kind → List Token
var_tokens x = Word (codes "var") ∷ Word x.0 ∷ Sign sign.Colon ∷ kind_token x.1 ∷ Sign sign.Semicolon ∷ []

-- transaction NAME levels LO to HI
abbrev pub heading_tokens : Context → Name → ℕ → ℕ → List Token
heading_tokens p name lo hi =
    Word (codes "transaction") ∷ Word name ∷ Word (codes "levels") ∷ label_token p lo ∷ Word (codes "to")
    ∷ label_token p hi ∷ []

abbrev pub outermost : Policy → Schemes → Tx → Context
outermost policy schemes tx = record { policy = policy; schemes = schemes; hi = tx.hi; scope = scope_of tx }

abbrev pub tx_tokens : Context → Tx → List Token
tx_tokens p tx =
    heading_tokens p tx.name tx.lo tx.hi ++ (params_tokens p tx.params ++ braced (flat_map var_tokens tx.vars
    ++ block_tokens p tx.body))

abbrev pub tokens_of : Policy → Schemes → Tx → List Token
tokens_of policy schemes tx = tx_tokens (outermost policy schemes tx) tx

-- the canonical text
abbrev pub printed : Policy → Schemes → Tx → List ℕ
printed policy schemes tx = layout (tokens_of policy schemes tx)
