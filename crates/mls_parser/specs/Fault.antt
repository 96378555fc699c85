-- The causes for which texts of transactions are refused, and which of several faults is answered.
use Rattle.std.specs.Prelude.{◌≡◌, ℕ, ◌-◌, Bool, true, false, ◌==◌, ◌&&◌, ◌||◌, nat_lt, if◌then◌else◌, List, [], ◌∷◌}
use Rattle.std.specs.Prelude.{Option, Some, None, map, get_or, Contains}
use Rattle.std.specs.List.{AllByRecursion}
use Rattle.mls_tokens.specs.Spot.{spot_at}
use Rattle.mls_tokens.specs.declared.fault.TokenCause.{TokenCause}
use Rattle.mls_tokens.specs.declared.fault.TokenCause.TheVariants as tokens
use Rattle.mls_tokens.specs.declared.fault.TokenFault.{TokenFault}
use Rattle.mls_parser.specs.declared.fault.TextCause.{TextCause}
use Rattle.mls_parser.specs.declared.fault.TextCause.TheVariants.{Token, Expected, UnknownName, Kind, Repeated, Depth}
use Rattle.mls_parser.specs.declared.fault.TextCause.TheVariants.{TooLong, LabelOrder, Memory}
use Rattle.mls_parser.specs.declared.fault.PlacedFault.{PlacedFault}
use Rattle.mls_parser.specs.declared.fault.TextFault.{TextFault}
use Rattle.mls_parser.specs.declared.fault.TheConstants.{WORDS}

abbrev pub code_of : TextCause → ℕ
code_of Token = 21
code_of Expected = 22
code_of UnknownName = 23
code_of Kind = 24
code_of Repeated = 25
code_of Depth = 26
code_of TooLong = 27
code_of LabelOrder = 28
code_of Memory = 29

abbrev pub word_of : TextCause → List ℕ
word_of c = get_or (map (λ w. w.now) WORDS) (code_of c - 21) []

-- ---- faults of a text

abbrev pub fault : ℕ → TextCause → PlacedFault
fault at cause = record { at = at; cause = cause }

-- a fault at a place, unless a test holds
abbrev pub unless : Bool → ℕ → TextCause → List PlacedFault
unless true at cause = []
unless false at cause = fault at cause ∷ []

-- ---- faults of tokens

abbrev pub lifted_cause : TokenCause → TextCause
lifted_cause tokens.Token = Token
lifted_cause tokens.Expected = Expected
lifted_cause tokens.TooLong = TooLong
lifted_cause tokens.Memory = Memory

abbrev pub lifted : TokenFault → PlacedFault
lifted f = fault f.at (lifted_cause f.cause)

-- ---- the least of them

-- it stands before the other, or at one place with it and has the smaller number
unfoldable pub is_before : PlacedFault → PlacedFault → Bool
is_before f g = nat_lt f.at g.at || (f.at == g.at && nat_lt (code_of f.cause) (code_of g.cause))

abbrev pub sooner : Option PlacedFault → PlacedFault → PlacedFault
sooner None g = g
sooner (Some f) g = if is_before g f then g else f

-- the least of these and of one that was found
unfoldable pub least_from : Option PlacedFault → List PlacedFault → Option PlacedFault
least_from found [] = found
least_from found (f ∷ fs) = least_from (Some (sooner found f)) fs

abbrev pub least : List PlacedFault → Option PlacedFault
least faults = least_from None faults

-- one of these, before which none of them stands
pub record IsLeast (faults : List PlacedFault) (f : PlacedFault) : Type 0 where
  pub one : Contains faults f
  pub first : AllByRecursion (λ g. is_before g f ≡ false) faults

-- ---- lines and columns

-- where the byte of the place stands
unfoldable pub in_text : List ℕ → PlacedFault → TextFault
in_text bytes f = record {
  line = (spot_at bytes (f.at - 1)).line;
  column = (spot_at bytes (f.at - 1)).column;
  cause = f.cause;
}
