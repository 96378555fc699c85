-- The orders of values and of places are total, and only equal ones tie.
use Rattle.std.proofs.Common.{◌≡◌, ◌↔◌, Bool, true, refl, ap, subst, nat_cmp, is_eq}
use Rattle.std.specs.declared.cmp.Ordering.{Ordering}
use Rattle.std.specs.declared.cmp.Ordering.TheVariants.{Less, Equal, Greater}
use Rattle.std.specs.Cmp.{IsTotalOrder}
use Rattle.std.specs.Cmp.Lexicographic.{slice_cmp}
use Rattle.std.specs.Ordering.{ordering_then, eq_by_cmp}
use Rattle.std.specs.FinMap.{IsAntisymmetric, slice_cmp-IsAntisymmetric, nat_cmp-IsAntisymmetric, int_cmp-IsAntisymmetric}
use Rattle.std.proofs.lemmas.Cmp.{tied_itself}
use Rattle.mls_scheme.specs.declared.value.Value.{Value}
use Rattle.mls_scheme.specs.declared.value.Value.TheVariants.{Int, Text}
use Rattle.mls_scheme.specs.Value.{value_cmp, value_eq}
use Rattle.mls_scheme.specs.Table.{place_cmp}
use Rattle.mls_scheme.specs.declared.place.Place.{Place}
use Rattle.mls_scheme.specs.Order.{AreOrdered}
pub use Rattle.mls_scheme.specs.PlaceOrder.{value_total, place_total}

pub value_exact : IsAntisymmetric value_cmp
value_exact (Int m) (Int n) e = ap Int (int_cmp-IsAntisymmetric m n e)
value_exact (Int m) (Text t) e = absurd (cc)
value_exact (Text s) (Int n) e = absurd (cc)
value_exact (Text s) (Text t) e = ap Text (slice_cmp-IsAntisymmetric nat_cmp-IsAntisymmetric s t e)

-- where both comparisons tie
pub then_ties : (o q : Ordering) → ordering_then o q ≡ Equal → (o ≡ Equal) × (q ≡ Equal)
then_ties Less q e = absurd (cc)
then_ties Equal q e = (refl, e)
then_ties Greater q e = absurd (cc)

pub place_exact : IsAntisymmetric place_cmp
unfolding place_cmp
place_exact p r h =
    let s = then_ties (slice_cmp value_cmp p.key r.key) (ordering_then (nat_cmp p.key_class r.key_class)
    (nat_cmp p.class r.class)) h in
    let t = then_ties (nat_cmp p.key_class r.key_class) (nat_cmp p.class r.class) s.1 in
    let x = slice_cmp-IsAntisymmetric value_exact p.key r.key s.0 in
    let y = nat_cmp-IsAntisymmetric p.key_class r.key_class t.0 in
    let z = nat_cmp-IsAntisymmetric p.class r.class t.1 in
    λ i. record { key = x i; key_class = y i; class = z i }

pub ordered : AreOrdered
ordered = record { values = value_total; equal_values = value_exact; places = place_total; equal_places = place_exact }

-- ---- as tests

pub is_eq-true : (o : Ordering) → is_eq o ≡ true → o ≡ Equal
is_eq-true Less h = absurd (cc)
is_eq-true Equal h = refl
is_eq-true Greater h = absurd (cc)

-- a total order in which only equal ones tie decides equality
decides : {K : Type 0} {R : K → K → Ordering} → IsTotalOrder R → IsAntisymmetric R → (x y : K)
    → (eq_by_cmp R x y ≡ true) ↔ (x ≡ y)
decides {R = R} total exact x y = (
  λ h. exact x y (is_eq-true _ h),
  λ e. ap is_eq (subst (λ z. R x z ≡ Equal) e (tied_itself total x)),
)

pub value_eq_decides : (v w : Value) → (value_eq v w ≡ true) ↔ (v ≡ w)
value_eq_decides = decides value_total value_exact

pub value_eq-true : (v w : Value) → value_eq v w ≡ true → v ≡ w
value_eq-true v w = (value_eq_decides v w).0

pub value_eq-same : (v w : Value) → v ≡ w → value_eq v w ≡ true
value_eq-same v w = (value_eq_decides v w).1

-- the same place
abbrev pub is_place : Place → Place → Bool
is_place p q = eq_by_cmp place_cmp p q

pub place_eq_decides : (p q : Place) → (is_place p q ≡ true) ↔ (p ≡ q)
place_eq_decides = decides place_total place_exact

pub is_place-true : (p q : Place) → is_place p q ≡ true → p ≡ q
is_place-true p q = (place_eq_decides p q).0

pub is_place-same : (p q : Place) → p ≡ q → is_place p q ≡ true
is_place-same p q = (place_eq_decides p q).1
