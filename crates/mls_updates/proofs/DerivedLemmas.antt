-- The new tuple of an update from a lower class, by its outline.
use Rattle.std.proofs.Common.{◌≡◌, ℕ, suc, ◌+◌, ◌<◌, true, false, cond, List, [], ◌∷◌, map, length, Some, None, refl, sym, ap, ◌∙◌, subst, arith, inl, inr, nat_eq, ◌⊎◌, ◌≢◌, ne_eqb}
use Rattle.std.specs.List.{enumerate_from, AllByRecursion}
use Rattle.std.specs.FinMap.{get}
use Rattle.std.proofs.lemmas.Bool.{cases_Bool, cond-true, cond-false}
use Rattle.mls_lattice.specs.Labels.{Labels, below, AreDistinct}
use Rattle.mls_lattice.proofs.LatticeLemmas.{below-refl, below-antisym}
use Rattle.mls_scheme.specs.declared.tuple.Element.{Element}
use Rattle.mls_scheme.specs.declared.place.Place.{Place}
use Rattle.mls_scheme.specs.Tuple.{at}
use Rattle.mls_scheme.specs.Table.{Table}
use Rattle.mls_filterview.specs.Stored.{IsStored, IsStoredTuple, with_class}
use Rattle.mls_filterview.specs.Fragment.{classes, cell_at, cells_from, cells_of, node_of, IsMadeOf}
use Rattle.mls_updates.specs.Steps.{outline}
use Rattle.mls_updates.specs.Writes.{Sets, set_element, derived}
use Rattle.mls_updates.proofs.SetLemmas.{IsSet, length-derived, derived_cases}

-- an element by its class alone
abbrev blank : ℕ → Element
blank m = record { value = None; class = m }

-- all named attributes new, from the k-th on
abbrev derived_from : ℕ → Sets → ℕ → List Element → List Element
derived_from w sets k es = map (λ d. set_element w sets d.0 d.1) (enumerate_from k es)

module _ (w : ℕ) where
  -- two elements are set to one, or both stay
  set_both : (sets : Sets) (i : ℕ) (x y : Element) → (set_element w sets i x ≡ set_element w sets i y)
      ⊎ ((set_element w sets i x ≡ x) × (set_element w sets i y ≡ y))
  set_both [] i x y = inr (refl, refl)
  set_both (s ∷ ss) i x y =
      let new : Element = record { value = s.1; class = w } in
      elim (cases_Bool (nat_eq s.0 i)) [
        | inl b ↦ inl (cond-true (nat_eq s.0 i) new (set_element w ss i x) b
            ∙ sym (cond-true (nat_eq s.0 i) new (set_element w ss i y) b))
        | inr b ↦ (let x_is = cond-false (nat_eq s.0 i) new (set_element w ss i x) b in
            let y_is = cond-false (nat_eq s.0 i) new (set_element w ss i y) b in
            elim (set_both ss i x y) [ inl e ↦ inl (x_is ∙ e ∙ sym y_is) | inr e ↦ inr (x_is ∙ e.0, y_is ∙ e.1) ])
      ]

  module _ (sets : Sets) where
    class_set : (i : ℕ) (e : Element) → (set_element w sets i (blank e.class)).class ≡ (set_element w sets i e).class
    class_set i e = elim (set_both sets i (blank e.class) e) [
      | inl s ↦ ap (λ x. x.class) s
      | inr s ↦ ap
          (λ x. x.class) s.0 ∙ sym (ap (λ x. x.class) s.1)
    ]

    -- the outline has the classes of the new tuple
    same_classes : (k : ℕ) (es : List Element) → map (λ e. e.class) (outline w sets k (classes es)) ≡ map (λ e. e.class)
        (derived_from w sets k es)
    same_classes k [] = refl
    same_classes k (e ∷ es) =
        let n : suc k ≡ k + 1 = omega arith in
        let rest = same_classes (suc k) es ∙ ap (λ j. map (λ x. x.class) (derived_from w sets j es)) n in
        λ i. class_set k e i ∷ rest i

    -- and its cells of class w, where no element was of class w before
    same_cells : (p : Place) → p.class ≡ w → (k : ℕ) (es : List Element) → AllByRecursion (λ e. e.class ≢ w) es
        → cells_from k p (outline w sets k (classes es)) ≡ cells_from k p (derived_from w sets k es)
    same_cells p own k [] h = refl
    same_cells p own k (e ∷ es) h =
        let x = set_element w sets k (blank e.class) in
        let y = set_element w sets k e in
        let xs = cells_from (suc k) p (outline w sets (suc k) (classes es)) in
        let ys = cells_from (suc k) p (derived_from w sets (k + 1) es) in
        let n : suc k ≡ k + 1 = omega arith in
        let rest : xs ≡ ys = same_cells p own (suc k) es h.1
        ∙ ap (λ j. cells_from (suc k) p (derived_from w sets j es)) n in
        elim (set_both sets k (blank e.class) e) [
          | inl s ↦ (λ i. cond (nat_eq (s i).class p.class) (cell_at p k (s i) ∷ rest i) (rest i))
          | inr s ↦ (let other : nat_eq e.class p.class ≡ false = ne_eqb e.class p.class (λ t. h.0 (t ∙ own)) in
              cond-false (nat_eq x.class p.class) (cell_at p k x ∷ xs) xs (ap (λ z. nat_eq z.class p.class) s.0 ∙ other)
              ∙ rest
              ∙ sym (cond-false (nat_eq y.class p.class) (cell_at p k y ∷ ys) ys (ap (λ z. nat_eq z.class p.class) s.1
              ∙ other)))
        ]

each_at : (P : Element → Type 0) (es : List Element) → ((i : ℕ) → i < length es → P (at es i)) → AllByRecursion P es
each_at P [] h = tt
each_at P (e ∷ es) h = (h 0 (omega arith), each_at P es (λ i l. h (suc i) (omega arith)))

module _ (ls : Labels) (distinct : AreDistinct ls) (n : ℕ) (T : Table) (stored : IsStored ls n T) (q : Place)
    (fs : List Element) (found : get T q ≡ Some fs)
    (w : ℕ) (declared : w < length ls) (up : below ls q.class w ≡ true) (ne : q.class ≡ w → ⊥) (sets : Sets) where
  st : IsStoredTuple ls n T q fs
  st = stored q fs found

  p : Place
  p = with_class q w

  other_class : (i : ℕ) → i < length fs → (at fs i).class ≢ w
  other_class i l e = ne (below-antisym ls distinct q.class w (st.declared q.class st.own) declared up
      (subst (λ m. below ls m q.class ≡ true) e (st.greatest (at fs i).class (inr (i, l, refl)))))

  -- the node and the cells of the outline are those of the new tuple
  pub outline_made : IsMadeOf T (node_of (with_class q w, outline w sets 0 (classes fs))) (cells_of (
    with_class q w,
    outline w sets 0 (classes fs),
  )) (derived w sets fs)
  unfolding derived
  outline_made = record {
    pattern = same_classes w sets 0 fs;
    own = same_cells w sets (with_class q w) refl 0 fs (each_at (λ e. e.class ≢ w) fs other_class);
    others = λ i l other. by_case i (subst (λ k. i < k) (length-derived w sets fs) l) other (derived_cases w sets fs i
        (subst (λ k. i < k) (length-derived w sets fs) l));
  }
    where
      by_case : (i : ℕ) → i < length fs → (at (derived w sets fs) i).class ≢ w → (at (derived w sets fs) i ≡ at fs i)
          ⊎ IsSet w sets i (at (derived w sets fs) i) → (gs : List Element)
          × (get T (with_class (with_class q w) (at (derived w sets fs) i).class) ≡ Some gs)
          × (at gs i ≡ at (derived w sets fs) i) × (i < length gs)
      by_case i l other (inl e) =
          let m = (at fs i).class in
          let c = st.closed m (inr (i, l, refl)) in (
            c.0,
            ap (λ x. get T (with_class q x.class)) e ∙ c.1,
            c.2 i l (below-refl ls m) ∙ sym e,
            subst (λ k. i < k) (st.count ∙ sym (stored (with_class q m) c.0 c.1).count) l,
          )
      by_case i l other (inr s) = absurd (other (ap (λ x. x.class) s.2))

-- so in an equal table, at an equal place and by an equal pattern
pub made_alike : (U T : Table) (p q : Place) (xs ys : List ℕ) (sets : Sets) (es : List Element) → U ≡ T → p ≡ q
    → xs ≡ ys
    → IsMadeOf T (node_of (q, outline q.class sets 0 ys)) (cells_of (q, outline q.class sets 0 ys)) es
    → IsMadeOf U (node_of (p, outline p.class sets 0 xs)) (cells_of (p, outline p.class sets 0 xs)) es
made_alike U T p q xs ys sets es same here classes h =
    subst (λ X. IsMadeOf X (node_of (p, outline p.class sets 0 xs)) (cells_of (p, outline p.class sets 0 xs)) es)
    (sym same)
    (subst (λ r. IsMadeOf T (node_of (r, outline r.class sets 0 xs)) (cells_of (r, outline r.class sets 0 xs)) es)
    (sym here)
    (subst (λ zs. IsMadeOf T (node_of (q, outline q.class sets 0 zs)) (cells_of (q, outline q.class sets 0 zs)) es)
    (sym classes) h))
