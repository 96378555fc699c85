-- Conditions on a row, from the tokens that are left.
use Rattle.std.specs.Prelude.{ℕ, zero, suc, ◌==◌, Bool, true, false, if◌then◌else◌, List, [], ◌∷◌, ◌++◌, map, Option}
use Rattle.std.specs.Prelude.{Some, None, option_map, Ok, Err}
use Rattle.mls_lattice.specs.Policy.{Name, Policy}
use Rattle.mls_lattice.specs.Reading.{◌>>=◌}
use Rattle.mls_scheme.specs.declared.value.Kind.{Kind}
use Rattle.mls_scheme.specs.Scheme.{Attribute, Scheme, Schemes, scheme_of}
use Rattle.mls_tokens.specs.declared.fault.TokenFault.{TokenFault}
use Rattle.mls_tokens.specs.declared.token.Token.{Token}
use Rattle.mls_tokens.specs.declared.token.Token.TheVariants.{Word, Int, Text, Sign as Sign_token}
use Rattle.mls_tokens.specs.declared.token.Placed.{Placed}
use Rattle.mls_tokens.specs.declared.sign.Sign.{Sign}
use Rattle.mls_tokens.specs.declared.sign.Sign.TheVariants as signs
use Rattle.mls_tokens.specs.Scanning.{Left}
use Rattle.mls_tokens.specs.Passing.{left}
use Rattle.mls_translang.specs.declared.operator.Operator.{Operator}
use Rattle.mls_translang.specs.declared.operator.Operator.TheVariants.{Equal, Unequal, Less, AtMost, Greater, AtLeast}
use Rattle.mls_translang.specs.declared.operator.Operator.TheVariants.{And, Or}
use Rattle.mls_translang.specs.Scope.{Scope}
use Rattle.mls_translang.specs.Tokens.{Context}
use Rattle.mls_translang.specs.Tree.{Expr, Known, Null, Var, Param, Field, No, Op}
use Rattle.mls_translang.specs.Fits.{row_of}
use Rattle.mls_parser.specs.declared.fault.PlacedFault.{PlacedFault}
use Rattle.mls_parser.specs.declared.fault.TextCause.TheVariants.{Expected, Kind as Wrong_kind, Depth}
use Rattle.mls_parser.specs.declared.given.Given.{Given}
use Rattle.mls_parser.specs.declared.words.Head.{Head}
use Rattle.mls_parser.specs.Fault.{fault, unless}
use Rattle.mls_parser.specs.Infer.{may_be_truth, operands_fit, given_by_operator}
use Rattle.mls_parser.specs.Noted.{State, Read, note, token}
use Rattle.mls_parser.specs.ReadExpr.{given, whole_at}
use Rattle.mls_parser.specs.ReadList.{tested}
use Rattle.mls_parser.specs.Words.{operator_of_word, pass_head}

-- ---- what may stand behind an expression

abbrev pub comparison_of_sign : Sign → Option Operator
comparison_of_sign signs.Equals = Some Equal
comparison_of_sign signs.Differs = Some Unequal
comparison_of_sign signs.Less = Some Less
comparison_of_sign signs.AtMost = Some AtMost
comparison_of_sign signs.Greater = Some Greater
comparison_of_sign signs.AtLeast = Some AtLeast
comparison_of_sign _ = None

-- what stands between the sides of a test
abbrev pub comparison_of : Token → Option Operator
comparison_of (Word s) = None
comparison_of (Int n) = None
comparison_of (Text s) = None
comparison_of (Sign_token s) = comparison_of_sign s

-- what stands between tests: `and` or `or`
abbrev pub joiner_of : Token → Option Operator
joiner_of (Word s) = operator_of_word s
joiner_of (Int n) = None
joiner_of (Text s) = None
joiner_of (Sign_token s) = None

-- the next token, if it is one of them, with its place
abbrev pub take_known : (Token → Option Operator) → List Placed → TokenFault → Option ((Operator × ℕ) × Left)
take_known what [] stop = None
take_known what (p ∷ ps) stop = option_map (λ op. ((op, p.at), left ps stop)) (what p.token)

abbrev pub taken_as : (Token → Option Operator) → Left → Option ((Operator × ℕ) × Left)
taken_as what l = take_known what l.placed l.stop

abbrev pub behind_known : List PlacedFault → (Operator × ℕ) × Left → (Operator × ℕ) × State
behind_known faults x = (x.0, (faults, x.1))

abbrev pub takes_known : (Token → Option Operator) → State → Option ((Operator × ℕ) × State)
takes_known what s = option_map (behind_known s.0) (taken_as what s.1)

-- ---- two parts with an operator between them, and no parentheses

abbrev pub between : Given → Operator × ℕ → Given → Given
between left op right = given (Op op.0 left.expr right.expr) (given_by_operator op.0) left.at

-- an operator keeps its kind where its operands are wrong
abbrev pub between_faults : Given → Operator × ℕ → Given → List PlacedFault
between_faults left op right = unless (operands_fit op.0 left.gives right.gives) op.1 Wrong_kind

-- ---- tests

-- a word that is not the one between the tests before
abbrev pub are_mixed : Option Operator → Operator → Bool
are_mixed (Some And) Or = true
are_mixed (Some Or) And = true
are_mixed _ _ = false

-- the fault of a test that may not stand here: where no expression begins it is that
abbrev pub past_most : Read (Head × ℕ) → PlacedFault
past_most (Ok h) = fault h.0.1 Depth
past_most (Err f) = f

abbrev pub with_next : (Operator → Given → State → Read Given) → Given → Option ((Operator × ℕ) × Given) × State
    → Read Given
with_next more g (None, s) = Ok (g, s)
with_next more g (Some (op, test), s) = more op.0 (between g op test) (note (between_faults g op test) s)

module _ (p : Context) where
  abbrev pub compared : Given → State → Option ((Operator × ℕ) × State) → Read Given
  compared left s None = Ok (left, s)
  compared left s (Some op) =
      whole_at p op.1 >>= λ right. Ok (between left op.0 right.0, note (between_faults left op.0 right.0) right.1)

  -- an expression, or two with a comparison between them
  unfoldable pub test_at : State → Read Given
  test_at s = whole_at p s >>= λ left. compared left.0 left.1 (takes_known comparison_of left.1)

  abbrev pub joined : ℕ → Option Operator → State → Option ((Operator × ℕ) × State)
      → Read (Option ((Operator × ℕ) × Given))
  joined room before s None = Ok (None, s)
  joined room before s (Some op) =
      if are_mixed before op.0.0 then Err (fault op.0.1 Expected)
      else (if room == 0 then Err (past_most (token pass_head op.1)) else (test_at op.1 >>= λ t. Ok (
        Some (op.0, t.0),
        t.1,
      )))

  -- one test more, if a word joins it to those before: there is room for so many, and one word stands between those
  unfoldable pub next_test_at : ℕ → Option Operator → State → Read (Option ((Operator × ℕ) × Given))
  next_test_at room before s = joined room before s (takes_known joiner_of s)

  -- behind the tests before, of which g is made
  unfoldable pub tests_from : ℕ → Option Operator → Given → State → Read Given
  tests_from zero before g s = next_test_at zero before s >>= λ x. Ok (g, x.1)
  tests_from (suc room) before g s =
      next_test_at (suc room) before s >>= with_next (λ op whole r. tests_from room (Some op) whole r) g

  -- tests, at most 16, with one word between each two
  unfoldable pub tests_at : State → Read Given
  tests_at s = test_at s >>= λ t. tests_from 15 None t.0 t.1

-- ---- the attributes of a row by their names alone

abbrev pub attribute_var : Attribute → Name × Kind
attribute_var a = (a.0, a.1.kind)

-- they count as variables, those of the key first
abbrev pub row_vars : Scheme → List (Name × Kind)
row_vars scheme = map attribute_var (scheme.keys ++ scheme.others)

abbrev pub written_scope : Schemes → ℕ → Scope
written_scope schemes relation = record {
  params = [];
  vars = row_vars (scheme_of schemes relation);
  rows =
      row_of schemes relation ∷ [];
}

-- the ceiling is not looked at
abbrev pub written_place : Policy → Schemes → ℕ → Context
written_place policy schemes relation = record {
  policy = policy;
  schemes = schemes;
  hi = 0;
  scope =
      written_scope schemes relation;
}

-- and are those of the row
abbrev pub as_fields : Expr → Expr
as_fields (Known v) = Known v
as_fields Null = Null
as_fields (Var i) = Field 0 i
as_fields (Param i) = Param i
as_fields (Field d i) = Field d i
as_fields (No e) = No (as_fields e)
as_fields (Op op left right) = Op op (as_fields left) (as_fields right)

-- ---- conditions

-- a truth value of the attributes of a row
unfoldable pub condition_at : Policy → Schemes → ℕ → State → Read Expr
condition_at policy schemes relation s =
    tests_at (written_place policy schemes relation) s
    >>= λ g. Ok (as_fields g.0.expr, note (tested (may_be_truth g.0.gives) g.0) g.1)
