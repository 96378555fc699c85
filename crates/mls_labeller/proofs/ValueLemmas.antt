-- How many values a range has.
use Rattle.std.proofs.Common.{◌≡◌, ℕ, zero, suc, ◌+◌, ◌<◌, ◌≤◌, ℤ, pos, ◌≤ℤ◌, ◌+ℤ◌, ◌-ℤ◌, Bool, true, false, List, [], ◌∷◌, ◌++◌, length, map, Option, Some, None, refl, ap, subst, arith}
use Rattle.std.specs.Prelude.{Contains, unsigned_abs}
use Rattle.std.specs.Int.{from_bool}
use Rattle.std.proofs.lemmas.Int.{ints}
use Rattle.std.proofs.lemmas.List.Elements.{Contains-append_left, Contains-append_right}
use Rattle.mls_scheme.specs.declared.value.Value.{Value}
use Rattle.mls_scheme.specs.declared.value.Value.TheVariants.{Int, Text}
use Rattle.mls_labeller.specs.declared.bounds.Bounds.{Bounds}
use Rattle.mls_labeller.specs.declared.range.Range.{Range}
use Rattle.mls_labeller.specs.Ranges.{Admits, IsBetween, HasIntegers, HasValues}
use Rattle.mls_labeller.proofs.CountLemmas.{here, there, has_map}

-- so many integers from one on
abbrev pub from_on : ℕ → ℤ → List ℤ
from_on zero low = []
from_on (suc n) low = low ∷ from_on n (low +ℤ pos 1)

pub long_from : (n : ℕ) (low : ℤ) → length (from_on n low) ≡ n
long_from zero low = refl
long_from (suc n) low = ap suc (long_from n (low +ℤ pos 1))

pub has_from : (n : ℕ) (low : ℤ) (k : ℕ) → k < n → Contains (from_on n low) (low +ℤ pos k)
has_from zero low k within = absurd (omega (arith, within))
has_from (suc n) low zero within = subst (Contains (from_on (suc n) low)) (grind (arith, ints))
    (here low (from_on n (low +ℤ pos 1)))
has_from (suc n) low (suc k) within =
    there low (low +ℤ pos (suc k)) (from_on n (low +ℤ pos 1)) (subst (Contains (from_on n (low +ℤ pos 1)))
    (grind (arith, ints)) (has_from n (low +ℤ pos 1) k (omega (arith, within))))

-- an integer between bounds is so many behind the lower one
between : (low high n : ℤ) → low ≤ℤ n → n ≤ℤ high → (low +ℤ pos (unsigned_abs (n -ℤ low)) ≡ n)
    × (unsigned_abs (n -ℤ low) < unsigned_abs (high -ℤ low) + 1)
between low high n above below = (grind (arith, ints), grind (arith, ints))

-- there are as many as the difference of the bounds, and one
pub integers : (b : Bounds) (count : ℕ) → count ≡ unsigned_abs (b.high -ℤ b.low) + 1
    → HasIntegers b (from_on count b.low)
integers b count is n within =
    let k = between b.low b.high n within.0 within.1 in
    subst (Contains (from_on count b.low)) k.0 (has_from count b.low (unsigned_abs (n -ℤ b.low))
    (omega (arith, k.1, is)))

-- ---- values, and null

abbrev pub nulls : Bool → List (Option Value)
nulls true = None ∷ []
nulls false = []

pub has_nulls : (b : Bool) → b ≡ true → Contains (nulls b) None
has_nulls true e = here None []
has_nulls false e = absurd (cc)

pub values_and_null : (r : Range) (values : List (Option Value)) → ((x : Value) → Admits r (Some x)
    → Contains values (Some x)) → HasValues r (values ++ nulls r.null)
values_and_null r values has None admits = Contains-append_right values (nulls r.null) None (has_nulls r.null admits)
values_and_null r values has (Some x) admits = Contains-append_left values (nulls r.null) (Some x) (has x admits)

pub integers_listed : (b : Bounds) (numbers : List ℤ) → HasIntegers b numbers → (x : Value) → IsBetween (Some b) x
    → Contains (map (λ n. Some (Int n)) numbers) (Some x)
integers_listed b numbers has (Int n) within = has_map (λ n. Some (Int n)) numbers n (has n within)
integers_listed b numbers has (Text s) within = absurd within

pub long_nulls : (b : Bool) → length (nulls b) ≡ from_bool b
long_nulls true = refl
long_nulls false = refl
