-- The commands of a batch, from the tokens that are left.
use Rattle.std.specs.Prelude.{ℕ, zero, suc, Bool, true, false, if◌then◌else◌, List, [], ◌∷◌, ◌++◌, codes, Option, Some}
use Rattle.std.specs.Prelude.{None, Ok, Err}
use Rattle.mls_lattice.specs.Policy.{Policy}
use Rattle.mls_lattice.specs.Reading.{◌>>=◌}
use Rattle.mls_scheme.specs.Scheme.{Schemes}
use Rattle.mls_tokens.specs.declared.token.Token.{Token}
use Rattle.mls_tokens.specs.declared.token.Token.TheVariants.{Word, Int, Text, Sign}
use Rattle.mls_tokens.specs.declared.sign.Sign.TheVariants.{LeftBrace, RightBrace, Semicolon}
use Rattle.mls_parser.specs.declared.fault.TextCause.TheVariants.{TooLong}
use Rattle.mls_parser.specs.Fault.{fault}
use Rattle.mls_parser.specs.Noted.{State, Read, token, takes_sign, sign_at, word_at}
use Rattle.mls_parser.specs.Words.{pass_known}
use Rattle.mls_translang.specs.declared.event.One.{One}
use Rattle.mls_translang.specs.declared.event.One.TheVariants as ones
use Rattle.mls_translang.specs.Event.{most_ones}
use Rattle.mls_script.specs.declared.grammar.OneVerb.{OneVerb}
use Rattle.mls_script.specs.declared.grammar.OneVerb.TheVariants as of_one
use Rattle.mls_script.specs.Grammar.{one_verbs, one_among}
use Rattle.mls_script.specs.ReadParts.{look_at, insert_at, update_at, delete_at}
use Rattle.mls_script.specs.ReadQuery.{rows_at}

abbrev pub one_of_token : Token → Option OneVerb
one_of_token (Word s) = one_among one_verbs s
one_of_token (Int n) = None
one_of_token (Text s) = None
one_of_token (Sign s) = None

abbrev pub one_verb_at : State → Read (OneVerb × ℕ)
one_verb_at s = token (pass_known one_of_token) s

-- ---- behind a command

-- whether a semicolon was the last before the end
abbrev pub behind_semicolon : State → Option (ℕ × State) → Bool × State
behind_semicolon s None = (false, s)
behind_semicolon s (Some end) = (true, end.1)

abbrev pub ends_behind : State → Option (ℕ × State) → Read Bool
ends_behind s None = sign_at RightBrace s >>= λ end. Ok (true, end.1)
ends_behind s (Some x) = Ok (behind_semicolon x.1 (takes_sign RightBrace x.1))

-- whether the batch ends here; else a semicolon is passed
unfoldable pub ends_at : State → Read Bool
ends_at s = ends_behind s (takes_sign Semicolon s)

-- ---- a command more than there may be

unfoldable pub excess_at : {X : Type 0} → State → Read X
excess_at s = one_verb_at s >>= λ v. Err (fault v.0.1 TooLong)

module _ (policy : Policy) (schemes : Schemes) where
  -- ---- a command

  abbrev pub looked_at : Bool → State → Read One
  looked_at counts s =
      look_at policy schemes counts s >>= λ l. Ok (ones.View l.0.relation l.0.label l.0.query counts, l.1)

  -- how many rows, and the count that is to find them
  unfoldable pub expect_at : State → Read One
  expect_at s = do
    n ← rows_at s
    word ← word_at (codes "count") n.1
    l ← look_at policy schemes true word.1
    Ok (ones.Expect n.0 l.0.relation l.0.label l.0.query, l.1)

  abbrev pub behind_verb : OneVerb → State → Read One
  behind_verb of_one.View s = looked_at false s
  behind_verb of_one.Count s = looked_at true s
  behind_verb of_one.Expect s = expect_at s
  behind_verb of_one.Insert s = insert_at schemes s >>= λ w. Ok (ones.Write w.0.0 w.0.1, w.1)
  behind_verb of_one.Update s = update_at policy schemes s >>= λ w. Ok (ones.Write w.0.0 w.0.1, w.1)
  behind_verb of_one.Delete s = delete_at policy schemes s >>= λ w. Ok (ones.Write w.0.0 w.0.1, w.1)

  unfoldable pub one_at : State → Read One
  one_at s = one_verb_at s >>= λ v. behind_verb v.0.0 v.1

  -- ---- all of them

  -- n more at most, behind those before
  unfoldable pub ones_from : ℕ → List One → State → Read (List One)
  ones_from zero front s = excess_at s
  ones_from (suc n) front s = do
    one ← one_at s
    ends ← ends_at one.1
    if ends.0 then Ok (front ++ one.0 ∷ [], ends.1) else ones_from n (front ++ one.0 ∷ []) ends.1

  unfoldable pub batch_at : State → Read (List One)
  batch_at s = sign_at LeftBrace s >>= λ x. ones_from most_ones [] x.1
