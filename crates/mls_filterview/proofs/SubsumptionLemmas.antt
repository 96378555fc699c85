-- Subsumption is an order, and its tests decide it.
use Rattle.std.proofs.Common.{◌≡◌, ℕ, zero, suc, ◌<◌, true, false, List, [], ◌∷◌, length, Option, Some, None, refl, sym, ap, ◌∙◌, subst, arith, inl, inr, is_some, true≢false, eqb-true, eq-eqb, ext_get_or}
use Rattle.std.specs.Option.{option_eq}
use Rattle.std.proofs.lemmas.Bool.{false≢true, and_parts, and_from, or_cases, or_left, or_right, not-true, not_from_false}
use Rattle.mls_scheme.specs.declared.value.Value.{Value}
use Rattle.mls_scheme.specs.declared.tuple.Element.{Element}
use Rattle.mls_scheme.specs.declared.tuple.Tuple.{Tuple}
use Rattle.mls_scheme.specs.Value.{value_eq}
use Rattle.mls_scheme.specs.Tuple.{at, null_element}
use Rattle.mls_scheme.specs.Table.{tuple_at}
use Rattle.mls_scheme.specs.declared.place.Place.{Place}
use Rattle.mls_scheme.proofs.OrderLemmas.{value_eq-true, value_eq-same}
use Rattle.mls_filterview.specs.Subsumption.{Covers, Subsumes, same_element, covers, all_cover, subsumes_entry}
use Rattle.mls_filterview.proofs.EntityTests.{entity_decides}

Covers-trans : (a b c : Element) → Covers a b → Covers b c → Covers a c
Covers-trans a b c (inl p) k = subst (λ x. Covers x c) (sym p) k
Covers-trans a b c (inr h) (inl q) = inr (h.0, ap (λ x. is_some x.value) (sym q) ∙ h.1)
Covers-trans a b c (inr h) (inr k) = absurd (true≢false (sym k.0 ∙ h.1))

Covers-antisym : (a b : Element) → Covers a b → Covers b a → a ≡ b
Covers-antisym a b (inl p) k = p
Covers-antisym a b (inr h) (inl q) = sym q
Covers-antisym a b (inr h) (inr k) = absurd (true≢false (sym k.0 ∙ h.1))

pub Subsumes-refl : (t : Tuple) → Subsumes t t
Subsumes-refl t = record { key = refl; key_class = refl; count = refl; each = λ i l. inl refl }

pub Subsumes-trans : (s t u : Tuple) → Subsumes s t → Subsumes t u → Subsumes s u
Subsumes-trans s t u h k = record {
  key = h.key ∙ k.key;
  key_class = h.key_class ∙ k.key_class;
  count = h.count ∙ k.count;
  each = λ i l. Covers-trans (at s.elements i) (at t.elements i) (at u.elements i)
      (h.each i (subst (λ n. i < n) (sym k.count) l)) (k.each i l);
}

-- tuples with the same parts
pub same_tuple : (s t : Tuple) → s.key ≡ t.key → s.key_class ≡ t.key_class → s.elements ≡ t.elements → s ≡ t
same_tuple s t k c e = λ i. record { key = k i; key_class = c i; elements = e i }

pub same_elements : (as' bs : List Element) → length as' ≡ length bs → ((i : ℕ) → i < length as' → at as' i ≡ at bs i)
    → as' ≡ bs
same_elements as' bs n h = ext_get_or null_element as' bs n h

pub Subsumes-antisym : (s t : Tuple) → Subsumes s t → Subsumes t s → s ≡ t
Subsumes-antisym s t h k =
    same_tuple s t h.key h.key_class
    (same_elements s.elements t.elements h.count (λ i l. Covers-antisym (at s.elements i) (at t.elements i)
    (h.each i (subst (λ n. i < n) h.count l)) (k.each i l)))

-- each element of the first list covers that of the second
abbrev pub EachCovers : List Element → List Element → Type 0
EachCovers as' bs = (i : ℕ) → i < length bs → Covers (at as' i) (at bs i)

pub no_value : (v : Option Value) → is_some v ≡ false → v ≡ None
no_value None h = refl
no_value (Some v) h = absurd (true≢false h)

-- ---- the tests

pub same_value-true : (v w : Option Value) → option_eq value_eq v w ≡ true → v ≡ w
same_value-true None None h = refl
same_value-true None (Some w) h = absurd (false≢true h)
same_value-true (Some v) None h = absurd (false≢true h)
same_value-true (Some v) (Some w) h = ap Some (value_eq-true v w h)

pub same_value-refl : (v : Option Value) → option_eq value_eq v v ≡ true
same_value-refl None = refl
same_value-refl (Some v) = value_eq-same v v refl

pub same_element-true : (e f : Element) → same_element e f ≡ true → e ≡ f
same_element-true e f h =
    let p = and_parts _ _ h in
    let v = same_value-true e.value f.value p.0 in
    let c = eqb-true e.class f.class p.1 in
    λ i. record { value = v i; class = c i }

pub same_element-from : (e f : Element) → e ≡ f → same_element e f ≡ true
same_element-from e f h =
    ap (λ (x : Element). same_element e x) (sym h) ∙ and_from _ _ (same_value-refl e.value)
    (eq-eqb e.class e.class refl)

pub covers-true : (a b : Element) → covers a b ≡ true → Covers a b
covers-true a b h =
    elim (or_cases _ _ h) [
      | inl k ↦ inl (same_element-true a b k)
      | inr k ↦ (let p = and_parts _ _ k in inr (p.0, not-true _ p.1))
    ]

pub covers-from : (a b : Element) → Covers a b → covers a b ≡ true
covers-from a b (inl e) = or_left _ _ (same_element-from a b e)
covers-from a b (inr k) = or_right (same_element a b) _ (and_from _ _ k.0 (not_from_false _ k.1))

pub all_cover-true : (as' bs : List Element) → all_cover as' bs ≡ true → (length as' ≡ length bs) × EachCovers as' bs
all_cover-true [] [] h = (refl, λ i l. absurd (omega arith))
all_cover-true [] (b ∷ bs) h = absurd (false≢true h)
all_cover-true (a ∷ as') [] h = absurd (false≢true h)
all_cover-true (a ∷ as') (b ∷ bs) h =
    let p = and_parts _ _ h in
    let r = all_cover-true as' bs p.1 in
    (ap suc r.0, at_each a b as' bs (covers-true a b p.0) r.1)
  where
    at_each : (a b : Element) (as' bs : List Element) → Covers a b → EachCovers as' bs → EachCovers (a ∷ as') (b ∷ bs)
    at_each a b as' bs p f zero l = p
    at_each a b as' bs p f (suc i) l = f i (omega arith)

pub all_cover-from : (as' bs : List Element) → length as' ≡ length bs → EachCovers as' bs → all_cover as' bs ≡ true
all_cover-from [] [] n h = refl
all_cover-from [] (b ∷ bs) n h = absurd (omega arith)
all_cover-from (a ∷ as') [] n h = absurd (omega arith)
all_cover-from (a ∷ as') (b ∷ bs) n h = and_from _ _ (covers-from a b (h 0 (omega arith)))
    (all_cover-from as' bs (omega arith) (λ i l. h (suc i) (omega arith)))

pub subsumes_entry-true : (d e : Place × List Element) → subsumes_entry d e ≡ true
    → Subsumes (tuple_at d.0 d.1) (tuple_at e.0 e.1)
subsumes_entry-true d e h =
    let p = and_parts _ _ h in
    let q = (entity_decides d.0 e.0).0 p.0 in
    let r = all_cover-true d.1 e.1 p.1 in
    record { key = q.0; key_class = q.1; count = r.0; each = r.1 }

pub subsumes_entry-from : (d e : Place × List Element) → Subsumes (tuple_at d.0 d.1) (tuple_at e.0 e.1)
    → subsumes_entry d e ≡ true
subsumes_entry-from d e h =
    and_from _ _ ((entity_decides d.0 e.0).1 (h.key, h.key_class))
    (all_cover-from d.1 e.1 h.count h.each)
