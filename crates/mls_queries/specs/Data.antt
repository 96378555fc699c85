-- What the data of an evaluation stand for.
use Rattle.std.specs.Prelude.{Bool, ℤ, Option, Some, None, is_none}
use Rattle.std.specs.declared.cmp.Ordering.{Ordering}
use Rattle.mls_scheme.specs.declared.value.Value.{Value}
use Rattle.mls_scheme.specs.declared.value.Value.TheVariants.{Int}
use Rattle.mls_scheme.specs.Value.{value_cmp}
use Rattle.mls_translang.specs.Expressions.{Datum, Plain, Truth}
use Rattle.mls_queries.specs.declared.datum.Datum as of_datum
use Rattle.mls_queries.specs.declared.datum.Datum.TheVariants as given

abbrev pub datum_of : of_datum.Datum → Datum
datum_of given.Null = Plain None
datum_of (given.Lent v) = Plain (Some v.now)
datum_of (given.Number n) = Plain (Some (Int n))
datum_of (given.Truth holds) = Truth holds

-- a number, or null
abbrev pub of_number : Option ℤ → Datum
of_number None = Plain None
of_number (Some n) = Plain (Some (Int n))

abbrev pub number_of : Option Value → Option ℤ
number_of (Some (Int n)) = Some n
number_of _ = None

abbrev pub is_null : Option Value → Bool
is_null v = is_none v

-- the order of two values
abbrev pub order_of : Option Value → Option Value → Option Ordering
order_of (Some a) (Some b) = Some (value_cmp a b)
order_of _ _ = None
