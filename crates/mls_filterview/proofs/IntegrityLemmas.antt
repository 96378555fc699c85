-- The stored form has the four integrity properties.
use Rattle.std.proofs.Common.{◌≡◌, ℕ, ◌<◌, true, false, length, map, refl, sym, ap, ◌∙◌, subst, inl, inr, ◌⊎◌, true≢false}
use Rattle.std.specs.FinMap.{get}
use Rattle.std.proofs.lemmas.Bool.{cases_Bool}
use Rattle.std.proofs.lemmas.List.{length-map}
use Rattle.std.proofs.lemmas.Option.{same_Some}
use Rattle.mls_lattice.specs.Labels.{Labels, below}
use Rattle.mls_lattice.proofs.LatticeLemmas.{below-refl, below-trans}
use Rattle.mls_scheme.specs.declared.tuple.Tuple.{Tuple}
use Rattle.mls_scheme.specs.Tuple.{at}
use Rattle.mls_scheme.specs.Table.{Table, Has, IsIn, tuple_at, place_of}
use Rattle.mls_filterview.specs.Subsumption.{Covers, Subsumes}
use Rattle.mls_filterview.specs.View.{hide, filtered, Filter, View, low}
use Rattle.mls_filterview.specs.Stored.{IsStoredTuple, IsStored}
use Rattle.mls_filterview.specs.Integrity.{EntityIntegrity, NullIntegrity, InterInstanceIntegrity, PolyinstantiationIntegrity, HasIntegrity}
use Rattle.mls_filterview.proofs.LowLemmas.{from_low, to_low}
use Rattle.mls_filterview.proofs.SubsumptionLemmas.{no_value, Subsumes-trans, Subsumes-antisym}
use Rattle.mls_filterview.proofs.ViewLemmas.{hide-in, hide-out, at_filtered, filter_low, view-low, view_stored}
use Rattle.mls_filterview.proofs.TopLemmas.{top}

module _ (ls : Labels) (n : ℕ) (T : Table) (stored : IsStored ls n T) where
  -- two tuples of one entity have the same element of a class
  same_value : (s t : Tuple) (k m : ℕ) → Has T k s → Has T m t → s.key ≡ t.key → s.key_class ≡ t.key_class → (i : ℕ)
      → i < length s.elements → i < length t.elements → (at s.elements i).class ≡ (at t.elements i).class
      → at s.elements i ≡ at t.elements i
  same_value s t k m hs ht key kc i l l' e =
      let c = (at s.elements i).class in
      let a = (stored (place_of k s) s.elements hs).closed c (inr (i, l, refl)) in
      let b = (stored (place_of m t) t.elements ht).closed c (inr (i, l', e)) in
      let same : a.0 ≡ b.0 = same_Some a.0 b.0 (sym a.1
      ∙ (λ j. get T (record { key = key j; key_class = kc j; class = c })) ∙ b.1) in
      sym (a.2 i l (below-refl ls c)) ∙ ap (λ xs. at xs i) same ∙ b.2 i l' (ap (λ x. below ls x c) (sym e)
      ∙ below-refl ls c)

  -- what d sees of a tuple that subsumes one of a class that d dominates subsumes that one
  seen_subsumes : (d m : ℕ) (v t : Tuple) → Has T m t → below ls m d ≡ true → Subsumes v t
      → Subsumes (filtered ls d v) t
  seen_subsumes d m v t h b k = record {
    key = k.key;
    key_class = k.key_class;
    count = length-map v.elements (hide ls d v.key_class) ∙ k.count;
    each = λ i l. covers i l (k.each i l);
  }
    where
      st : IsStoredTuple ls n T (place_of m t) t.elements
      st = stored (place_of m t) t.elements h

      covers : (i : ℕ) → i < length t.elements → Covers (at v.elements i) (at t.elements i)
          → Covers (at (map (hide ls d v.key_class) v.elements) i) (at t.elements i)
      covers i l x = subst (λ y. Covers y (at t.elements i))
          (sym (at_filtered ls d v.key_class v.elements i (subst (λ j. i < j) (sym k.count) l)))
          (by_cover x (cases_Bool (below ls (at v.elements i).class d)))
        where
          by_cover : Covers (at v.elements i) (at t.elements i) → (below ls (at v.elements i).class d ≡ true)
              ⊎ (below ls (at v.elements i).class d ≡ false) → Covers (hide ls d v.key_class (at v.elements i))
              (at t.elements i)
          by_cover x (inl q) = subst (λ y. Covers y (at t.elements i))
              (sym (hide-in ls d v.key_class (at v.elements i) q)) x
          by_cover (inl x) (inr q) =
              absurd (true≢false (sym (ap (λ y. below ls y.class d) x ∙ below-trans ls (at t.elements i).class m d
              (st.greatest (at t.elements i).class (inr (i, l, refl))) b) ∙ q))
          by_cover (inr x) (inr q) =
              let none = no_value (at t.elements i).value x.1 in
              inl (hide-out ls d v.key_class (at v.elements i) q ∙ (λ j. record {
                value = sym none j;
                class =
                    (k.key_class ∙ sym (st.null_at_key i l none)) j;
              }))

  -- what d sees of some tuple of the view at c subsumes a stored tuple of a class that d dominates
  seen_above : (c d m : ℕ) (t : Tuple) → below ls d c ≡ true → Has T m t → below ls m d ≡ true → (v : Tuple)
      × Filter ls (View ls (IsIn T) c) d v × Subsumes v t
  seen_above c d m t b h l =
      let r = top (low ls c T) (place_of m t) t.elements (to_low ls c T t m h (below-trans ls m d c l b)) in
      let v = tuple_at r.0 r.1 in
      let st = stored (place_of m t) t.elements h in
      let key_class = subst (λ x. below ls x d ≡ true) (sym r.3.key_class) (below-trans ls t.key_class m d
      (st.above_key m st.own) l) in (
        filtered ls d v,
        (v, (view-low ls n T stored c v).1 ((r.0.class, r.2), r.4), key_class, refl),
        seen_subsumes d m v t h l r.3,
      )

  -- what d sees of a tuple of the view at c, it sees of a stored tuple
  seen_stored : (c d : ℕ) (t : Tuple) → Filter ls (View ls (IsIn T) c) d t → Filter ls (IsIn T) d t
  seen_stored c d t f = let w = view_stored ls n T stored c f.0 f.1 in (f.0, (w.0, w.1), f.2, f.3)

  between_in : (c d : ℕ) → below ls d c ≡ true → (t : Tuple) → View ls (IsIn T) d t → View ls (View ls (IsIn T) c) d t
  between_in c d b t v =
      let w = view_stored ls n T stored d t v in
      let r = seen_above c d w.0 t b w.1 w.2 in
      let same : r.0 ≡ t = v.1 r.0 (seen_stored c d r.0 r.1) r.2 in
      (subst (Filter ls (View ls (IsIn T) c) d) same r.1, λ u f k. v.1 u (seen_stored c d u f) k)

  between_out : (c d : ℕ) → below ls d c ≡ true → (t : Tuple) → View ls (View ls (IsIn T) c) d t → View ls (IsIn T) d t
  between_out c d b t v = (
    seen_stored c d t v.0,
    λ u f k.
        let s = filter_low ls n T stored d u f in
        let i = from_low ls d T s.0 s.1.0 s.1.1 in
        let r = seen_above c d s.1.0 s.0 b i.0 i.1 in
        let over = Subsumes-trans r.0 s.0 u r.2 s.2 in
        let same : r.0 ≡ t = v.1 r.0 r.1 (Subsumes-trans r.0 u t over k) in
        Subsumes-antisym u t k (subst (λ x. Subsumes x u) same over),
  )

  pub entity_integrity : EntityIntegrity ls T
  entity_integrity c t v i l = let w = view_stored ls n T stored c t v
      in (stored (place_of w.0 t) t.elements w.1).above_key (at t.elements i).class (inr (i, l, refl))

  pub null_integrity : NullIntegrity ls T
  null_integrity = record {
    null_class = λ c t v i l e. (let w = view_stored ls n T stored c t v
        in (stored (place_of w.0 t) t.elements w.1).null_at_key i l e);
    no_subsumed = λ c s t v w k. w.1 s v.0 k;
  }

  pub inter_instance_integrity : InterInstanceIntegrity ls T
  inter_instance_integrity c d b t = (between_in c d b t, between_out c d b t)

  pub polyinstantiation_integrity : PolyinstantiationIntegrity ls T
  polyinstantiation_integrity c s t v w key kc i l l' e =
      let x = view_stored ls n T stored c s v in
      let y = view_stored ls n T stored c t w in
      ap (λ z. z.value) (same_value s t x.0 y.0 x.1 y.1 key kc i l l' e)

  pub has_integrity : HasIntegrity ls T
  has_integrity = record {
    entity = entity_integrity;
    nulls = null_integrity;
    between = inter_instance_integrity;
    determined = polyinstantiation_integrity;
  }
