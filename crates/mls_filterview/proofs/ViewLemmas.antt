-- The view at a level, and the stored tuples of classes that it dominates.
use Rattle.std.proofs.Common.{◌≡◌, ℕ, zero, suc, ◌<◌, ◌≤◌, true, false, cond, List, length, map, Option, Some, None, refl, sym, ap, ◌∙◌, subst, arith, inl, inr, is_some, ◌⊎◌, ◌↔◌, true≢false}
use Rattle.std.specs.FinMap.{get}
use Rattle.std.proofs.lemmas.Bool.{cases_lt, cases_Bool}
use Rattle.std.proofs.lemmas.List.{get_or-map, length-map}
use Rattle.mls_lattice.specs.Labels.{Labels, below}
use Rattle.mls_lattice.proofs.LatticeLemmas.{below-refl, below-trans}
use Rattle.mls_scheme.specs.declared.value.Value.{Value}
use Rattle.mls_scheme.specs.declared.tuple.Element.{Element}
use Rattle.mls_scheme.specs.declared.tuple.Tuple.{Tuple}
use Rattle.mls_scheme.specs.Tuple.{at, null_element}
use Rattle.mls_scheme.specs.Table.{Table, Has, IsIn, tuple_at, place_of}
use Rattle.mls_scheme.specs.declared.place.Place.{Place}
use Rattle.mls_filterview.specs.Subsumption.{Covers, Subsumes, IsMax}
use Rattle.mls_filterview.specs.View.{hide, filtered, Filter, View, low}
use Rattle.mls_filterview.specs.Stored.{Occurs, with_class, AgreesBelow, IsStoredTuple, IsStored}
use Rattle.mls_filterview.proofs.LowLemmas.{from_low, to_low}
use Rattle.mls_filterview.proofs.SubsumptionLemmas.{Subsumes-trans, Subsumes-antisym, same_tuple, same_elements}

-- ---- what is hidden, and what is not

pub hide-in : (ls : Labels) (c key_class : ℕ) (e : Element) → below ls e.class c ≡ true → hide ls c key_class e ≡ e
hide-in ls c key_class e h = ap (λ b. cond b e (record { value = None; class = key_class })) h

pub hide-out : (ls : Labels) (c key_class : ℕ) (e : Element) → below ls e.class c ≡ false → hide ls c key_class e
    ≡ record { value = None; class = key_class }
hide-out ls c key_class e h = ap (λ b. cond b e (record { value = None; class = key_class })) h

pub at_filtered : (ls : Labels) (c key_class : ℕ) (es : List Element) (i : ℕ) → i < length es
    → at (map (hide ls c key_class) es) i ≡ hide ls c key_class (at es i)
at_filtered ls c key_class es i l = get_or-map (hide ls c key_class) es i null_element null_element l

-- c sees a tuple as it is where c dominates all its classes
pub filtered_whole : (ls : Labels) (c : ℕ) (t : Tuple) → ((i : ℕ) → i < length t.elements
    → below ls (at t.elements i).class c ≡ true) → filtered ls c t ≡ t
filtered_whole ls c t h =
    same_tuple (filtered ls c t) t refl refl (same_elements (map (hide ls c t.key_class) t.elements) t.elements
    (length-map t.elements (hide ls c t.key_class)) (λ i l.
    let l' : i < length t.elements = subst (λ k. i < k) (length-map t.elements (hide ls c t.key_class)) l in
    at_filtered ls c t.key_class t.elements i l' ∙ hide-in ls c t.key_class (at t.elements i) (h i l')))

-- ---- the stored tuple that says what c sees of a tuple

-- m dominates the classes of the first k elements that c dominates
abbrev pub EachBelow : Labels → ℕ → List Element → ℕ → ℕ → Type 0
EachBelow ls c es k m = (i : ℕ) → i < k → below ls (at es i).class c ≡ true → below ls (at es i).class m ≡ true

-- m is the greatest that c dominates of the classes of the key and the first k elements
pub record GreatestBelow (ls : Labels) (c : ℕ) (p : Place) (es : List Element) (k : ℕ) (m : ℕ) : Type 0 where
  pub occurs : Occurs p es m
  pub seen : below ls m c ≡ true
  pub each : EachBelow ls c es k m

module _ (ls : Labels) (n : ℕ) (T : Table) (stored : IsStored ls n T) where
  pub greatest_below : (c : ℕ) (p : Place) (es : List Element) → IsStoredTuple ls n T p es → below ls p.key_class c
      ≡ true → (k : ℕ) → k ≤ length es → (m : ℕ) × GreatestBelow ls c p es k m
  greatest_below c p es st h zero l = (
    p.key_class,
    record {
      occurs = inl refl;
      seen = h;
      each =
          λ i b. absurd (omega arith);
    },
  )
  greatest_below c p es st h (suc k) l =
      one_more (greatest_below c p es st h k (omega arith)) (cases_Bool (below ls (at es k).class c))
    where
      e : ℕ
      e = (at es k).class

      up_to : (m : ℕ) → below ls e m ≡ true → EachBelow ls c es k m → EachBelow ls c es (suc k) m
      up_to m at_k before i b =
          elim (cases_lt i k) [
            | inl a ↦ before i a
            | inr a ↦ (let j : k ≡ i = omega arith
                in λ _. subst (λ j. below ls (at es j).class m ≡ true) j at_k)
          ]

      one_more : (m : ℕ) × GreatestBelow ls c p es k m → ((below ls e c ≡ true) ⊎ (below ls e c ≡ false)) → (m : ℕ)
          × GreatestBelow ls c p es (suc k) m
      one_more (m, g) (inr out) = (
        m,
        record {
          occurs = g.occurs;
          seen = g.seen;
          each = λ i b s.
              elim (cases_lt i k) [
                | inl a ↦ g.each i a s
                | inr a ↦ (let j : i ≡ k = omega arith
                    in absurd (true≢false (sym s ∙ ap (λ j. below ls (at es j).class c) j ∙ out)))
              ];
        },
      )
      one_more (m, g) (inl in') =
          elim (st.comparable e m (inr (k, omega arith, refl)) g.occurs) [
            | inl a ↦ (m, record { occurs = g.occurs; seen = g.seen; each = up_to m a g.each })
            | inr a ↦ (
              e,
              record {
                occurs = inr (k, omega arith, refl);
                seen = in';
                each = up_to e (below-refl ls e) (λ i b s. below-trans ls (at es i).class m e (g.each i b s) a);
              },
            )
          ]

  -- the entity's tuple of the greatest class that c dominates subsumes what c sees of the tuple
  pub record Represents (c : ℕ) (p : Place) (es : List Element) (m : ℕ) (fs : List Element) : Type 0 where
    pub greatest : GreatestBelow ls c p es (length es) m
    pub found : get T (with_class p m) ≡ Some fs
    pub subsumes : Subsumes (tuple_at p fs) (filtered ls c (tuple_at p es))

  -- each of its elements covers what c sees of the element
  seen_covered : (c m : ℕ) (p : Place) (es fs : List Element) → length es ≡ length fs
      → GreatestBelow ls c p es (length es) m → IsStoredTuple ls n T (with_class p m) fs → AgreesBelow ls m es fs
      → (i : ℕ) → i < length es → Covers (at fs i) (hide ls c p.key_class (at es i))
  seen_covered c m p es fs same g su agrees i l =
      elim (below ls (at es i).class c) as (λ b. below ls (at es i).class c ≡ b
      → Covers (at fs i) (cond b (at es i) (record { value = None; class = p.key_class }))) [
        | true ↦ λ h. inl (agrees i l (g.each i l h))
        | false ↦ λ h. null_or (at fs i).value refl
      ] refl
    where
      null_or : (v : Option Value) → (at fs i).value ≡ v
          → Covers (at fs i) (record { value = None; class = p.key_class })
      null_or None e = inl (λ j. record { value = e j; class = su.null_at_key i (subst (λ k. i < k) same l) e j })
      null_or (Some v) e = inr (ap is_some e, refl)

  pub represent : (c : ℕ) (p : Place) (es : List Element) → get T p ≡ Some es → below ls p.key_class c ≡ true → (m : ℕ)
      × (fs : List Element) × Represents c p es m fs
  represent c p es e h =
      let st = stored p es e in
      let g = greatest_below c p es st h (length es) (omega arith) in
      let cl = st.closed g.0 g.1.occurs in
      let su = stored (with_class p g.0) cl.0 cl.1 in (
        g.0,
        cl.0,
        record {
          greatest = g.1;
          found = cl.1;
          subsumes = record {
            key = refl;
            key_class = refl;
            count = su.count ∙ sym st.count ∙ sym (length-map es (hide ls c p.key_class));
            each = λ i l.
                let l' : i < length es = subst (λ k. i < k) (length-map es (hide ls c p.key_class)) l in
                subst (λ x. Covers (at cl.0 i) x) (sym (at_filtered ls c p.key_class es i l'))
                (seen_covered c g.0 p es cl.0 (st.count ∙ sym su.count) g.1 su cl.2 i l');
          };
        },
      )

  -- ---- the view is what is on top of low

  -- c sees a tuple of a class that it dominates as it is
  pub filtered_same : (c : ℕ) (t : Tuple) (m : ℕ) → Has T m t → below ls m c ≡ true → filtered ls c t ≡ t
  filtered_same c t m h e =
      let st = stored (place_of m t) t.elements h in
      filtered_whole ls c t (λ i l. below-trans ls (at t.elements i).class m c (st.greatest (at t.elements i).class
      (inr (i, l, refl))) e)

  pub low_filter : (c : ℕ) (t : Tuple) → IsIn (low ls c T) t → Filter ls (IsIn T) c t
  low_filter c t h =
      let k = from_low ls c T t h.0 h.1 in
      let st = stored (place_of h.0 t) t.elements k.0 in (
        t,
        (h.0, k.0),
        below-trans ls t.key_class h.0 c (st.above_key h.0 st.own) k.1,
        sym (filtered_same c t h.0 k.0 k.1),
      )

  -- what is seen of any tuple is subsumed by a tuple of low
  pub filter_low : (c : ℕ) (t : Tuple) → Filter ls (IsIn T) c t → (u : Tuple) × IsIn (low ls c T) u × Subsumes u t
  filter_low c t h =
      let s = h.0 in
      let r = represent c (place_of h.1.0 s) s.elements h.1.1 h.2 in
      let u : Tuple = record { key = s.key; key_class = s.key_class; elements = r.1 } in
      (u, (r.0, to_low ls c T u r.0 r.2.found r.2.greatest.seen), subst (Subsumes u) (sym h.3) r.2.subsumes)

  -- the view is what is not subsumed among the tuples of classes that c dominates
  pub view-low : (c : ℕ) (t : Tuple) → View ls (IsIn T) c t ↔ IsMax (IsIn (low ls c T)) t
  view-low c t = (
    (λ v.
        let r = filter_low c t v.0 in
        let e : r.0 ≡ t = v.1 r.0 (low_filter c r.0 r.1) r.2 in
        (subst (IsIn (low ls c T)) e r.1, λ s i k. v.1 s (low_filter c s i) k)),
    (λ m. (
      low_filter c t m.0,
      λ s f k.
          let r = filter_low c s f in
          let e : r.0 ≡ t = m.1 r.0 r.1 (Subsumes-trans r.0 s t r.2 k) in
          Subsumes-antisym s t k (subst (λ x. Subsumes x s) e r.2),
    )),
  )

  -- so it holds stored tuples of classes that c dominates
  pub view_stored : (c : ℕ) (t : Tuple) → View ls (IsIn T) c t → (m : ℕ) × Has T m t × (below ls m c ≡ true)
  view_stored c t v =
      let i = ((view-low c t).0 v).0 in
      let f = from_low ls c T t i.0 i.1 in
      (i.0, f.0, f.1)
