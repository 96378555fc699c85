-- Ranges: sets of values, one of which something has.
use Rattle.std.specs.Prelude.{◌≡◌, ℕ, true, ℤ, ◌≤ℤ◌, ◌+ℤ◌, ◌-ℤ◌, List, Option, Some, None, slice_index_or, Contains}
use Rattle.mls_scheme.specs.declared.value.Value.{Value}
use Rattle.mls_scheme.specs.declared.value.Value.TheVariants.{Int, Text}
use Rattle.mls_translang.specs.declared.operator.Operator.{Operator}
use Rattle.mls_translang.specs.declared.operator.Operator.TheVariants.{Plus}
use Rattle.mls_translang.specs.Tree.{Expr}
use Rattle.mls_translang.specs.Expressions.{Datum, value_of, calculate, apply, Environment, value_in}
use Rattle.mls_certcheck.specs.Meaning.{Variables}
use Rattle.mls_labeller.specs.declared.bounds.Bounds.{Bounds}
use Rattle.mls_labeller.specs.declared.range.Range.{Range}

abbrev pub Within : Bounds → ℤ → Type 0
Within b n = (b.low ≤ℤ n) × (n ≤ℤ b.high)

-- one of these, or any value where none are listed
abbrev pub IsAmong : Option (List Value) → Value → Type 0
IsAmong None v = Unit {0}
IsAmong (Some values) v = Contains values v

-- an integer within the bounds, or any value where there are none
abbrev pub IsBetween : Option Bounds → Value → Type 0
IsBetween None v = Unit {0}
IsBetween (Some b) (Int n) = Within b n
IsBetween (Some b) (Text s) = ⊥

-- a value of the range, or null where it can be
abbrev pub Admits : Range → Option Value → Type 0
Admits r None = r.null ≡ true
Admits r (Some v) = IsAmong r.listed v × IsBetween r.bounds v

-- ---- how many values there are

-- the count that stands for what is not counted
abbrev pub uncounted : ℕ
uncounted = 18446744073709551615

-- each integer between bounds
abbrev pub HasIntegers : Bounds → List ℤ → Type 0
HasIntegers b numbers = (n : ℤ) → Within b n → Contains numbers n

-- each value of a range, and null where it can be
abbrev pub HasValues : Range → List (Option Value) → Type 0
HasValues r values = (v : Option Value) → Admits r v → Contains values v

abbrev pub any_value : Range
any_value = record { null = true; listed = None; bounds = None }

-- the first range holds all that the second does
abbrev pub Includes : Range → Range → Type 0
Includes r q = (v : Option Value) → Admits q v → Admits r v

-- what these two operators do with numbers
abbrev pub arithmetic : Operator → (ℤ → ℤ → ℤ)
arithmetic Plus = ◌+ℤ◌
arithmetic _ = ◌-ℤ◌

abbrev pub IsArithmetic : Operator → Type 0
IsArithmetic operator =
    (x y : Datum) → value_of (apply operator x y) ≡ calculate (arithmetic operator) (value_of x) (value_of y)

-- ---- variables

-- each variable has a value of its range
abbrev pub AreHeld : List Range → Variables → Type 0
AreHeld ranges vars = (x : ℕ) → Admits (slice_index_or ranges x any_value) (vars x)

-- the second ranges hold what the first do
abbrev pub Wider : List Range → List Range → Type 0
Wider before after = (x : ℕ) → Includes (slice_index_or after x any_value) (slice_index_or before x any_value)

-- an expression has values of the range
abbrev pub HasRange : List Range → Expr → Range → Type 0
HasRange ranges e r = (env : Environment) → AreHeld ranges env.vars → Admits r (value_in env e)
