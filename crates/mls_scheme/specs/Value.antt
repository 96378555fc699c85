-- Values, their kinds and their order.
use Rattle.std.specs.Prelude.{ℕ, ◌^◌, ℤ, pos, negsuc, Bool, true, false, ◌&&◌, nat_lt, List, length, Option, None, Some}
use Rattle.std.specs.Ordering.{nat_cmp, int_cmp, eq_by_cmp}
use Rattle.std.specs.declared.cmp.Ordering.{Ordering}
use Rattle.std.specs.declared.cmp.Ordering.TheVariants.{Less, Greater}
use Rattle.std.specs.Cmp.Lexicographic.{slice_cmp}
use Rattle.std.specs.Str.{is_utf8}
use Rattle.mls_scheme.specs.declared.value.Kind.{Kind}
use Rattle.mls_scheme.specs.declared.value.Kind.TheVariants as kinds
use Rattle.mls_scheme.specs.declared.value.Value.{Value}
use Rattle.mls_scheme.specs.declared.value.Value.TheVariants.{Int, Text}

abbrev pub kind_of : Value → Kind
kind_of (Int n) = kinds.Int
kind_of (Text s) = kinds.Text

-- within 64 bits with a sign
unfoldable pub is_signed : ℤ → Bool
is_signed (pos n) = nat_lt n (2 ^ 63)
is_signed (negsuc n) = nat_lt n (2 ^ 63)

-- UTF-8 of fewer than 2 ^ 32 bytes
unfoldable pub is_text : List ℕ → Bool
is_text s = is_utf8 s && nat_lt (length s) (2 ^ 32)

-- a kind has its bounds
abbrev pub is_kind : Value → Kind → Bool
is_kind (Int n) kinds.Int = is_signed n
is_kind (Int n) kinds.Text = false
is_kind (Text s) kinds.Int = false
is_kind (Text s) kinds.Text = is_text s

-- null is of every kind
abbrev pub fits_kind : Option Value → Kind → Bool
fits_kind None k = true
fits_kind (Some v) k = is_kind v k

-- numbers before texts; numbers by value, texts by their bytes
abbrev pub value_cmp : Value → Value → Ordering
value_cmp (Int m) (Int n) = int_cmp m n
value_cmp (Int m) (Text t) = Less
value_cmp (Text s) (Int n) = Greater
value_cmp (Text s) (Text t) = slice_cmp nat_cmp s t

abbrev pub value_eq : Value → Value → Bool
value_eq = eq_by_cmp value_cmp
