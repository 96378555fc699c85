-- Expressions, from the tokens that are left, at a place in a transaction.
use Rattle.std.specs.Prelude.{ℕ, false, zero, suc, ◌-◌, ◌==◌, if◌then◌else◌, List, Option, Some, None, Ok, Err}
use Rattle.mls_lattice.specs.Reading.{◌>>=◌}
use Rattle.mls_scheme.specs.Value.{kind_of}
use Rattle.mls_tokens.specs.declared.sign.Sign.TheVariants.{RightParen, Dot}
use Rattle.mls_tokens.specs.Passing.{PlacedName}
use Rattle.mls_translang.specs.declared.operator.Operator.{Operator}
use Rattle.mls_translang.specs.Tokens.{Context}
use Rattle.mls_translang.specs.Tree.{Expr, Known, Null, Var, Param, Field, No, Op}
use Rattle.mls_parser.specs.declared.fault.TextCause.TheVariants as cause
use Rattle.mls_parser.specs.declared.fault.PlacedFault.{PlacedFault}
use Rattle.mls_parser.specs.declared.given.Given.{Given}
use Rattle.mls_parser.specs.declared.inferred.Inferred.{Inferred}
use Rattle.mls_parser.specs.declared.inferred.Inferred.TheVariants as inferred
use Rattle.mls_parser.specs.declared.names.Referent.{Referent}
use Rattle.mls_parser.specs.declared.names.Referent.TheVariants.{Variable, Parameter}
use Rattle.mls_parser.specs.declared.words.Head.{Head}
use Rattle.mls_parser.specs.declared.words.Head.TheVariants as heads
use Rattle.mls_parser.specs.Fault.{fault, unless}
use Rattle.mls_parser.specs.Names.{attribute_named, numbered, referent, row_named, row_scheme}
use Rattle.mls_parser.specs.Infer.{may_be_truth, operands_fit, given_by_operator, of_referent, of_attribute}
use Rattle.mls_parser.specs.Noted.{State, Read, note, token, takes_sign, sign_at, name_at, known}
use Rattle.mls_parser.specs.Words.{operator_of, pass_known, pass_head}

-- an expression, what it gives, and the place of its first token
abbrev pub given : Expr → Inferred → ℕ → Given
given e gives at = record { expr = e; gives = gives; at = at }

-- ---- names

abbrev pub refer : Option Referent → Expr
refer (Some (Variable i)) = Var i
refer (Some (Parameter i)) = Param i
refer None = Null

abbrev pub name_given : Context → PlacedName → Given
name_given p n = given (refer (referent p n.0)) (of_referent p (referent p n.0)) n.1

module _ (p : Context) where
  -- ROW.ATTRIBUTE
  abbrev pub attribute_given : ℕ → ℕ → Option ℕ → Given
  attribute_given at depth number = given (Field depth (numbered number)) (of_attribute (row_scheme p depth) number) at

  abbrev pub field_given : PlacedName → PlacedName → Option ℕ → Given
  field_given row attribute None = given Null inferred.Unknown row.1
  field_given row attribute (Some depth) = attribute_given row.1 depth
      (attribute_named (row_scheme p depth) attribute.0)

  abbrev pub field_faults : PlacedName → PlacedName → Option ℕ → List PlacedFault
  field_faults row attribute None = unless false row.1 cause.UnknownName
  field_faults row attribute (Some depth) = known (attribute_named (row_scheme p depth) attribute.0) attribute.1

  abbrev pub dotted : PlacedName → State → Option (ℕ × State) → Read Given
  dotted n s None = Ok (name_given p n, note (known (referent p n.0) n.1) s)
  dotted n s (Some dot) =
      name_at dot.1 >>= λ a. Ok (field_given n a.0 (row_named p n.0), note (field_faults n a.0 (row_named p n.0)) a.1)

  -- a name, or an attribute of the row that it names
  abbrev pub named_at : PlacedName → State → Read Given
  named_at n s = dotted n s (takes_sign Dot s)

  -- ---- behind what an expression begins with

  module _ (negated operated : ℕ → State → Read Given) where
    abbrev pub behind_head : Head → ℕ → State → Read Given
    behind_head (heads.Literal v) at s = Ok (given (Known v) (inferred.Value (kind_of v)) at, s)
    behind_head heads.Null at s = Ok (given Null inferred.Null at, s)
    behind_head (heads.Name n) at s = named_at (n, at) s
    behind_head heads.Not at s = negated at s
    behind_head heads.Paren at s = operated at s

    abbrev pub term_at : State → Read Given
    term_at s = token pass_head s >>= λ h. behind_head h.0.0 h.0.1 h.1

module _ (operand : State → Read Given) where
  -- an operator keeps its kind where its operands are wrong
  abbrev pub negation : ℕ → State → Read Given
  negation at s = do
    e ← operand s
    Ok (given (No e.0.expr) inferred.Truth at, note (unless (may_be_truth e.0.gives) at cause.Kind) e.1)

  -- an operator and the operand behind it, up to the parenthesis that closes both
  abbrev pub second : State → Read ((Operator × ℕ) × Given)
  second s = do
    op ← token (pass_known operator_of) s
    right ← operand op.1
    end ← sign_at RightParen right.1
    Ok ((op.0, right.0), end.1)

  abbrev pub operation : ℕ → State → Read Given
  operation at s = do
    left ← operand s
    rest ← second left.1
    Ok (
      given (Op rest.0.0.0 left.0.expr rest.0.1.expr) (given_by_operator rest.0.0.0) at,
      note (unless (operands_fit rest.0.0.0 left.0.gives rest.0.1.gives) rest.0.0.1 cause.Kind) rest.1,
    )

abbrev pub too_deep : {X : Type 0} → ℕ → State → Read X
too_deep at s = Err (fault at cause.Depth)

module _ (p : Context) where
  -- an expression whose `(` and `not` stand inside no more than d others
  unfoldable pub expr_at : ℕ → State → Read Given
  expr_at zero s = term_at p too_deep too_deep s
  expr_at (suc d) s = term_at p (λ at r. negation (λ t. expr_at d t) at r) (λ at r. operation (λ t. expr_at d t) at r) s

  -- behind a `not`, and behind a `(`, that may stand inside fewer than d others
  unfoldable pub negation_at : ℕ → ℕ → State → Read Given
  negation_at d at s = if d == 0 then too_deep at s else negation (λ t. expr_at (d - 1) t) at s

  unfoldable pub operation_at : ℕ → ℕ → State → Read Given
  operation_at d at s = if d == 0 then too_deep at s else operation (λ t. expr_at (d - 1) t) at s

  -- an expression of a statement
  unfoldable pub whole_at : State → Read Given
  whole_at s = expr_at 16 s
