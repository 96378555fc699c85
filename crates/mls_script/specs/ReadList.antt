-- Values, lists of them, and new values of attributes, from the tokens that are left.
use Rattle.std.specs.Prelude.{ℕ, Bool, true, ◌==◌, if◌then◌else◌, List, [], length, codes}
use Rattle.std.specs.Prelude.{slice_get, Option, Some, None, bytes_eq}
use Rattle.mls_lattice.specs.Reading.{◌>>=◌}
use Rattle.mls_scheme.specs.declared.value.Value.{Value}
use Rattle.mls_scheme.specs.declared.value.Value.TheVariants as values
use Rattle.mls_scheme.specs.Value.{fits_kind}
use Rattle.mls_scheme.specs.Scheme.{Attribute, Scheme}
use Rattle.mls_tokens.specs.declared.token.Token.{Token}
use Rattle.mls_tokens.specs.declared.token.Token.TheVariants.{Word, Int, Text, Sign}
use Rattle.mls_parser.specs.Noted.{State, Read, token, word_at}
use Rattle.mls_parser.specs.ReadList.{items_at, list_of, item_of, set_of}
use Rattle.mls_parser.specs.Words.{pass_any}
use Rattle.mls_translang.specs.Event.{Sets}

-- ---- values

abbrev pub value_of_token : Token → Option (Option Value)
value_of_token (Word s) = if bytes_eq s (codes "null") then Some None else None
value_of_token (Int n) = Some (Some (values.Int n))
value_of_token (Text s) = Some (Some (values.Text s))
value_of_token (Sign s) = None

-- a value or null, and its place
abbrev pub PlacedValue : Type 0
PlacedValue = Option Value × ℕ

abbrev pub value_at : State → Read PlacedValue
value_at s = token (pass_any value_of_token) s

-- ---- lists

-- of the kind of its attribute; any value where there is none
abbrev pub fits_attribute : Option Attribute → Option Value → Bool
fits_attribute None v = true
fits_attribute (Some a) v = fits_kind v a.1.kind

-- for each of some attributes one, or any
module _ (attributes : Option (List Attribute)) where
  abbrev attribute_from : Option (List Attribute) → ℕ → Option Attribute
  attribute_from None i = None
  attribute_from (Some as') i = slice_get as' i

  abbrev pub attribute_at : ℕ → Option Attribute
  attribute_at i = attribute_from attributes i

  abbrev many_for : Option (List Attribute) → ℕ → Bool
  many_for None n = true
  many_for (Some as') n = n == length as'

  abbrev pub are_as_many : ℕ → Bool
  are_as_many n = many_for attributes n

  -- a value more, behind those before
  unfoldable pub item_at : List (Option Value) → State → Read (List (Option Value))
  item_at front s = item_of value_at (λ v. v.0) (λ v. v.1) (λ a v. fits_attribute a v.0) attribute_at front s

  unfoldable pub list_at : State → Read (List (Option Value))
  list_at s = list_of item_at are_as_many s

-- ---- new values

module _ (scheme : Scheme) where
  -- an attribute and its new value, behind those before
  unfoldable pub set_at : Sets → State → Read Sets
  set_at front s = set_of value_at (λ v. v.0) (λ v. v.1) (λ a v. fits_attribute a v.0) scheme front s

  unfoldable pub sets_at : State → Read Sets
  sets_at s = word_at (codes "set") s >>= λ w. items_at set_at [] w.1
