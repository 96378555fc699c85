-- An expression as a list of marks, each behind its operands.
use Rattle.std.specs.Prelude.{◌≡◌, ℕ, ◌+◌, List, [], ◌∷◌, ◌++◌, refl}
use Rattle.std.specs.Coded.{Coded, code_by}
use Rattle.std.proofs.Common.{sym, ap, ◌∙◌, append_assoc}
use Rattle.std.proofs.lemmas.List.{append-nil}
use Rattle.mls_scheme.specs.declared.value.Value.{Value}
use Rattle.mls_translang.specs.declared.operator.Operator.{Operator}
use Rattle.mls_translang.specs.Tree.{Expr, Known, Null, Var, Param, Field, No, Op}

-- how many terms there are
abbrev pub expr_size : Expr → ℕ
expr_size (No e) = 1 + expr_size e
expr_size (Op op left right) = 1 + expr_size left + expr_size right
expr_size _ = 1

pub data Mark : Type 0 where
  A_value : (value : Value) → Mark
  A_null : Mark
  A_var : (number : ℕ) → Mark
  A_param : (number : ℕ) → Mark
  A_field : (depth attribute : ℕ) → Mark
  A_not : Mark
  An_op : (op : Operator) → Mark

abbrev pub marks : Expr → List Mark
marks (Known v) = A_value v ∷ []
marks Null = A_null ∷ []
marks (Var i) = A_var i ∷ []
marks (Param i) = A_param i ∷ []
marks (Field d i) = A_field d i ∷ []
marks (No e) = marks e ++ A_not ∷ []
marks (Op op left right) = marks left ++ (marks right ++ An_op op ∷ [])

abbrev pub not_on : List Expr → List Expr
not_on [] = []
not_on (e ∷ es) = No e ∷ es

abbrev pub op_on : Operator → List Expr → List Expr
op_on op (right ∷ left ∷ es) = Op op left right ∷ es
op_on op _ = []

abbrev pub built : List Mark → List Expr → List Expr
built [] es = es
built (A_value v ∷ ms) es = built ms (Known v ∷ es)
built (A_null ∷ ms) es = built ms (Null ∷ es)
built (A_var i ∷ ms) es = built ms (Var i ∷ es)
built (A_param i ∷ ms) es = built ms (Param i ∷ es)
built (A_field d i ∷ ms) es = built ms (Field d i ∷ es)
built (A_not ∷ ms) es = built ms (not_on es)
built (An_op op ∷ ms) es = built ms (op_on op es)

abbrev pub top_of : List Expr → Expr
top_of [] = Null
top_of (e ∷ es) = e

pub built-marks : (e : Expr) (ms : List Mark) (es : List Expr) → built (marks e ++ ms) es ≡ built ms (e ∷ es)
built-marks (No e) ms es = ap (λ l. built l es) (append_assoc (marks e) (A_not ∷ []) ms) ∙ built-marks e (A_not ∷ ms) es
built-marks (Op op left right) ms es =
    ap (λ l. built l es) (append_assoc (marks left) _ ms ∙ ap (λ l. marks left ++ l) (append_assoc (marks right)
    (An_op op ∷ []) ms))
    ∙ built-marks left (marks right ++ An_op op ∷ ms) es
    ∙ built-marks right (An_op op ∷ ms) (left ∷ es)
built-marks _ ms es = refl

pub read_back : (e : Expr) → top_of (built (marks e) []) ≡ e
read_back e = ap (λ l. top_of (built l [])) (sym (append-nil (marks e))) ∙ ap top_of (built-marks e [] [])

abbrev pub expr_code : Coded (List Mark) → Coded Expr
expr_code marks_code = code_by (List Mark) marks_code marks (λ ms. top_of (built ms [])) read_back
