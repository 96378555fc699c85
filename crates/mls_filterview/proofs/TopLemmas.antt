-- Some tuple on top of a table subsumes each of its tuples: one with the fewest nulls among those that subsume it.
use Rattle.std.proofs.Common.{◌≡◌, ℕ, ◌+◌, ◌<◌, ◌≤◌, true, false, cond, List, [], ◌∷◌, length, Option, Some, None, sym, ap, ◌∙◌, subst, arith, inl, inr, refl, suc, is_some, ◌⊎◌, true≢false}
use Rattle.std.specs.List.{list_any}
use Rattle.std.specs.FinMap.{get, keys, contains_key-keys}
use Rattle.std.proofs.lemmas.Bool.{false≢true, cases_lt, cases_Bool, or_cases}
use Rattle.std.proofs.lemmas.Option.{same_Some, none-some}
use Rattle.mls_scheme.specs.declared.tuple.Element.{Element}
use Rattle.mls_scheme.specs.declared.tuple.Tuple.{Tuple}
use Rattle.mls_scheme.specs.Table.{Table, IsIn, tuple_at, place_of}
use Rattle.mls_scheme.specs.declared.place.Place.{Place}
use Rattle.mls_scheme.proofs.OrderLemmas.{is_place, is_place-true}
use Rattle.mls_filterview.specs.Subsumption.{Covers, Subsumes, subsumes_entry}
use Rattle.mls_filterview.proofs.SubsumptionLemmas.{EachCovers, Subsumes-refl, Subsumes-trans, same_tuple, subsumes_entry-true, subsumes_entry-from}

-- ---- nulls

null_count : Element → ℕ
null_count e = cond (is_some e.value) 0 1

unfoldable nulls : List Element → ℕ
nulls [] = 0
nulls (e ∷ es) = null_count e + nulls es

nulls-cons : (e : Element) (es : List Element) → nulls (e ∷ es) ≡ null_count e + nulls es
unfolding nulls
nulls-cons e es = refl

-- what covers has no more nulls, and as many only if it is the same
null_at : (a b : Element) → Covers a b → (null_count a ≤ null_count b) × (null_count b ≤ null_count a → a ≡ b)
unfolding null_count
null_at a b (inl e) = (subst (λ x. null_count a ≤ null_count x) e (omega arith), λ _. e)
null_at a b (inr k) = (
  subst (λ x. cond x 0 1 ≤ null_count b) (sym k.0) (omega arith),
  λ l. absurd (one_zero (null_count b) (null_count a) l (ap (λ x. cond x 0 1) k.0) (ap (λ x. cond x 0 1) k.1)),
)
  where
    one_zero : (x y : ℕ) → x ≤ y → y ≡ 0 → x ≡ 1 → ⊥
    one_zero x y l p q = omega arith

fewer_step : (a b m n : ℕ) → a ≤ b → m ≤ n → (a + m ≤ b + n) × (b + n ≤ a + m → (b ≤ a) × (n ≤ m))
fewer_step a b m n h k = (omega arith, λ l. (omega arith, omega arith))

fewer : (as' bs : List Element) → length as' ≡ length bs → EachCovers as' bs → (nulls as' ≤ nulls bs)
    × (nulls bs ≤ nulls as' → as' ≡ bs)
fewer [] [] n h = (omega arith, λ _. refl)
fewer [] (b ∷ bs) n h = absurd (omega arith)
fewer (a ∷ as') [] n h = absurd (omega arith)
fewer (a ∷ as') (b ∷ bs) n h =
    let r = fewer as' bs (omega arith) (λ i l. h (suc i) (omega arith)) in
    let c = null_at a b (h 0 (omega arith)) in
    let s = fewer_step (null_count a) (null_count b) (nulls as') (nulls bs) c.0 r.0 in (
      rw (nulls-cons a as', nulls-cons b bs) s.0,
      λ l. let t = s.1 (rw (nulls-cons a as', nulls-cons b bs) at l) in λ i. c.1 t.0 i ∷ r.1 t.1 i,
    )

-- ---- the fewest nulls among the tuples of a table that subsume t
module _ (L : Table) (t : Tuple) where
  record Fewest (ps : List Place) (q : Place) (es : List Element) : Type 0 where
    pub found : get L q ≡ Some es
    pub subsumes : Subsumes (tuple_at q es) t
    pub least : (r : Place) (us : List Element) → list_any (is_place r) ps ≡ true → get L r ≡ Some us
        → Subsumes (tuple_at r us) t → nulls es ≤ nulls us

  fewest : (q : Place) (es : List Element) → get L q ≡ Some es → Subsumes (tuple_at q es) t → (ps : List Place)
      → (r : Place) × (us : List Element) × Fewest ps r us
  fewest q es e s [] = (q, es, record { found = e; subsumes = s; least = λ r us h. absurd (false≢true h) })
  fewest q es e s (p ∷ ps) = next (fewest q es e s ps) (get L p) refl
    where
      next : (r : Place) × (us : List Element) × Fewest ps r us → (o : Option (List Element)) → get L p ≡ o
          → (r : Place) × (us : List Element) × Fewest (p ∷ ps) r us
      next (r, us, f) None none = (
        r,
        us,
        record {
          found = f.found;
          subsumes = f.subsumes;
          least = λ v vs h g k.
              elim (or_cases _ _ h) [
                | inl a ↦ absurd (none-some vs (sym none ∙ ap (get L) (sym (is_place-true v p a)) ∙ g))
                | inr a ↦ f.least v vs a g k
              ];
        },
      )
      next (r, us, f) (Some vs) some = choose (cases_Bool (subsumes_entry (p, vs) (place_of 0 t, t.elements)))
        where
          -- at p the table has vs
          at_p : (v : Place) (ws : List Element) → is_place v p ≡ true → get L v ≡ Some ws → ws ≡ vs
          at_p v ws a g = same_Some ws vs (sym g ∙ ap (get L) (is_place-true v p a) ∙ some)

          pick : Subsumes (tuple_at p vs) t → ((nulls vs < nulls us) ⊎ (nulls us ≤ nulls vs)) → (r : Place)
              × (us : List Element) × Fewest (p ∷ ps) r us
          pick k (inl l) = (
            p,
            vs,
            record {
              found = some;
              subsumes = k;
              least = λ v ws h g j. elim (or_cases _ _ h) [
                | inl a ↦ subst (λ (xs : List Element). nulls vs ≤ nulls xs) (sym (at_p v ws a g)) (omega arith)
                | inr a ↦ omega (arith, f.least v ws a g j)
              ];
            },
          )
          pick k (inr l) = (
            r,
            us,
            record {
              found = f.found;
              subsumes = f.subsumes;
              least = λ v ws h g j. elim (or_cases _ _ h) [
                | inl a ↦ subst (λ (xs : List Element). nulls us ≤ nulls xs) (sym (at_p v ws a g)) l
                | inr a ↦ f.least v ws a g j
              ];
            },
          )

          choose : ((subsumes_entry (p, vs) (place_of 0 t, t.elements) ≡ true)
              ⊎ (subsumes_entry (p, vs) (place_of 0 t, t.elements) ≡ false)) → (r : Place) × (us : List Element)
              × Fewest (p ∷ ps) r us
          choose (inl h) = pick (subsumes_entry-true (p, vs) (place_of 0 t, t.elements) h)
              (cases_lt (nulls vs) (nulls us))
          choose (inr n) = (
            r,
            us,
            record {
              found = f.found;
              subsumes = f.subsumes;
              least = λ v ws h g j. elim (or_cases _ _ h) [
                | inl a ↦ absurd (true≢false (sym (subsumes_entry-from (p, vs) (place_of 0 t, t.elements)
                    (subst (λ (x : Tuple). Subsumes x t) (same_tuple (tuple_at v ws) (tuple_at p vs)
                    (ap (λ x. x.key) (is_place-true v p a)) (ap (λ x. x.key_class) (is_place-true v p a))
                    (at_p v ws a g)) j)) ∙ n))
                | inr a ↦ f.least v ws a g j
              ];
            },
          )

-- some tuple on top of a table subsumes each of its tuples
pub top : (L : Table) (p : Place) (es : List Element) → get L p ≡ Some es
    → (q : Place) × (us : List Element) × (get L q ≡ Some us) × Subsumes (tuple_at q us) (tuple_at p es)
    × ((u : Tuple) → IsIn L u → Subsumes u (tuple_at q us) → u ≡ tuple_at q us)
top L p es e =
    let f = fewest L (tuple_at p es) p es e (Subsumes-refl (tuple_at p es)) (keys L) in (
      f.0,
      f.1,
      f.2.found,
      f.2.subsumes,
      λ u i k.
          let pu : Place = place_of i.0 u in
          let l = f.2.least pu u.elements (sym (contains_key-keys L pu) ∙ ap is_some i.1) i.1
          (Subsumes-trans u (tuple_at f.0 f.1) (tuple_at p es) k f.2.subsumes) in
          same_tuple u (tuple_at f.0 f.1) k.key k.key_class ((fewer u.elements f.1 k.count k.each).1 l),
    )
