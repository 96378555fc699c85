-- Tuples put together from fragments are those of the table.
use Rattle.std.proofs.Common.{◌≡◌, ◌+◌, ◌<◌, ℕ, suc, Bool, true, false, cond, List, [], ◌∷◌, ◌++◌, length, map, Option, Some, None, refl, sym, ap, subst, ◌∙◌, zero-add, inl, inr, arith, ◌↔◌, unwrap_or, is_eq, nat_cmp, true≢false}
use Rattle.std.specs.Ordering.{ordering_then}
use Rattle.std.specs.FinMap.{get}
use Rattle.std.proofs.lemmas.Option.{same_Some}
use Rattle.std.proofs.lemmas.Cmp.{tied_itself, nat_cmp_total}
use Rattle.std.proofs.lemmas.Map.Lookups.{exact_pairs, exact_unsigned}
use Rattle.mls_lattice.specs.Labels.{Labels, below}
use Rattle.mls_lattice.proofs.LatticeLemmas.{below-refl, below-trans}
use Rattle.mls_scheme.specs.declared.value.Value.{Value}
use Rattle.mls_scheme.specs.declared.tuple.Element.{Element}
use Rattle.mls_scheme.specs.Tuple.{at}
use Rattle.mls_scheme.specs.declared.place.Place.{Place}
use Rattle.mls_scheme.specs.Table.{place_cmp, Table}
use Rattle.mls_scheme.proofs.OrderLemmas.{place_total, place_exact, is_eq-true, is_place-true, is_place-same}
use Rattle.mls_filterview.specs.declared.fragment.Node.{Node}
use Rattle.mls_filterview.specs.declared.fragment.Cell.{Cell}
use Rattle.mls_filterview.specs.View.{IsAmong}
use Rattle.mls_filterview.specs.Stored.{with_class, IsStored}
use Rattle.mls_filterview.specs.Fragment.{node_of, cell_at, place_of_node}
use Rattle.mls_filterview.specs.Assembly.{CellPlace, cell_place_cmp, place_of_cell, AreValues, elements_from, elements_of, AreRows, IsLowEntry, AreOf, AreLow}
use Rattle.mls_filterview.proofs.AmongLemmas.{among_push, among_left, push_last}
use Rattle.mls_filterview.proofs.EntryLemmas.{Entry}
use Rattle.mls_filterview.proofs.FragmentLemmas.{cell_found, cell_among}

-- ---- places of cells

abbrev is_cell_place : CellPlace → CellPlace → Bool
is_cell_place s t = is_eq (cell_place_cmp s t)

is_cell_place-true : (s t : CellPlace) → is_cell_place s t ≡ true → s ≡ t
is_cell_place-true s t h = exact_pairs place_cmp nat_cmp place_exact exact_unsigned s t
    (is_eq-true (cell_place_cmp s t) h)

is_cell_place-same : (s : CellPlace) → is_cell_place s s ≡ true
is_cell_place-same s = λ t. is_eq (ordering_then (tied_itself place_total s.0 t) (tied_itself nat_cmp_total s.1 t))

-- ---- one more cell, one more node

pub values_more : (cs : List Cell) (c : Cell) (held held' : CellPlace → Option (Option Value)) → AreValues cs held
    → ((q : CellPlace) → held' q ≡ cond (is_cell_place (place_of_cell c) q) (Some c.value) (held q))
    → AreValues (cs ++ c ∷ []) held'
values_more cs c held held' are update = record {
  sound = λ s v h.
      elim (is_cell_place (place_of_cell c) s) as (λ b. is_cell_place (place_of_cell c) s ≡ b
      → cond b (Some c.value) (held s) ≡ Some v → (d : Cell) × IsAmong d (cs ++ c ∷ []) × (place_of_cell d ≡ s)
      × (d.value ≡ v)) [
        | true ↦ λ e k. (c, push_last cs c, is_cell_place-true (place_of_cell c) s e, same_Some c.value v k)
        | false ↦ λ e k. (let r = are.sound s v k in (r.0, among_left cs (c ∷ []) r.0 r.1, r.2, r.3))
      ] refl (sym (update s) ∙ h);
  complete = λ d i.
      elim (is_cell_place (place_of_cell c) (place_of_cell d)) as (λ b. is_cell_place (place_of_cell c)
      (place_of_cell d) ≡ b → (v : Option Value) × (held' (place_of_cell d) ≡ Some v)) [
        | true ↦ λ e. (c.value, update (place_of_cell d) ∙ ap (λ b. cond b (Some c.value) (held (place_of_cell d))) e)
        | false ↦ λ e. elim (among_push cs c d i) [
          | inl j ↦ (let r = are.complete d j in (
            r.0,
            update (place_of_cell d)
                ∙ ap (λ b. cond b (Some c.value) (held (place_of_cell d))) e ∙ r.1,
          ))
          | inr q ↦ absurd (true≢false (sym (is_cell_place-same (place_of_cell d))
              ∙ ap (λ x. is_cell_place (place_of_cell x) (place_of_cell d)) q ∙ e))
        ]
      ] refl;
}

pub rows_more : (held : CellPlace → Option (Option Value)) (ns : List Node) (n : Node) (found found' : Place
    → Option (List Element)) → AreRows held ns found
    → ((q : Place) → found' q ≡ cond (is_eq (place_cmp (place_of_node n) q)) (Some (elements_of held n)) (found q))
    → AreRows held (ns ++ n ∷ []) found'
rows_more held ns n found found' are update = record {
  sound = λ p es h.
      elim (is_eq (place_cmp (place_of_node n) p)) as (λ b. is_eq (place_cmp (place_of_node n) p) ≡ b
      → cond b (Some (elements_of held n)) (found p) ≡ Some es → (m : Node) × IsAmong m (ns ++ n ∷ [])
      × (place_of_node m ≡ p) × (elements_of held m ≡ es)) [
        | true ↦ λ e k. (n, push_last ns n, is_place-true (place_of_node n) p e, same_Some (elements_of held n) es k)
        | false ↦ λ e k. (let r = are.sound p es k in (r.0, among_left ns (n ∷ []) r.0 r.1, r.2, r.3))
      ] refl (sym (update p) ∙ h);
  complete = λ m i.
      let q = place_of_node m in
      elim (is_eq (place_cmp (place_of_node n) q)) as (λ b. is_eq (place_cmp (place_of_node n) q) ≡ b
      → (es : List Element) × (found' q ≡ Some es)) [
        | true ↦ λ e. (elements_of held n, update q ∙ ap (λ b. cond b (Some (elements_of held n)) (found q)) e)
        | false ↦ λ e. elim (among_push ns n m i) [
          | inl j ↦ (let r = are.complete m j in (
            r.0,
            update q ∙ ap (λ b. cond b (Some (elements_of held n))
                (found q)) e ∙ r.1,
          ))
          | inr s ↦ absurd (true≢false (sym (is_place-same (place_of_node n) q (ap place_of_node (sym s))) ∙ e))
        ]
      ] refl;
}

-- ---- the elements of a node are those of its tuple

pub same_elements : (held : CellPlace → Option (Option Value)) (p : Place) (k : ℕ) (es : List Element)
    → ((i j : ℕ) → i < length es → j ≡ k + i → unwrap_or (held (with_class p (at es i).class, j)) None
    ≡ (at es i).value) → elements_from held p k (map (λ x. x.class) es) ≡ es
same_elements held p k [] h = refl
same_elements held p k (e ∷ es) h =
    let rest = same_elements held p (suc k) es (λ i j l q. h (suc i) j (omega arith) (omega arith)) in
    let first = h 0 k (omega arith) (omega arith) in
    λ t. record { value = first t; class = e.class } ∷ rest t

-- ---- the rows of some tuples of a table are those tuples

module _ (ls : Labels) (n : ℕ) (T : Table) (stored : IsStored ls n T) (In : Entry → Type 0) (has : (e : Entry) → In e
    → get T e.0 ≡ Some e.1)
    (down : (e f : Entry) → In e → get T f.0 ≡ Some f.1 → below ls f.0.class e.0.class ≡ true → In f) (ns : List Node)
    (ds : List Cell) (of : AreOf In ns ds)
    (held : CellPlace → Option (Option Value)) (are : AreValues ds held) where
  -- a value that is found at the place of an element of its own class is the element's
  value_found : (p : Place) (es : List Element) → get T p ≡ Some es → (i : ℕ) → (v : Option Value) → held (p, i)
      ≡ Some v → v ≡ (at es i).value
  value_found p es h i v g =
      let r = are.sound (p, i) v g in
      let f = (of.cells r.0).0 r.1 in
      let d = cell_found 0 f.0.0 f.0.1 r.0 f.2 in
      let s : place_of_cell (cell_at f.0.0 (0 + d.0) (at f.0.1 d.0)) ≡ (p, i) = ap place_of_cell (sym d.1.1) ∙ r.2 in
      let q : f.0.0 ≡ p = λ t. record {
        key = (s t).0.key;
        key_class = (s t).0.key_class;
        class =
            (sym d.1.2 ∙ ap (λ (x : CellPlace). x.0.class) s) t;
      } in
      let same : f.0.1 ≡ es = same_Some f.0.1 es (sym (has f.0 f.1) ∙ ap (get T) q ∙ h) in
      let number : d.0 ≡ i = sym (zero-add d.0) ∙ ap (λ (x : CellPlace). x.1) s in
      sym r.3 ∙ ap (λ x. x.value) d.1.1 ∙ (λ t. (at (same t) (number t)).value)

  -- at the class of an element, its entity's tuple of that class has the element
  value_at : (p : Place) (es : List Element) → In (p, es) → (i : ℕ) → i < length es
      → held (with_class p (at es i).class, i) ≡ Some (at es i).value
  value_at p es e i l =
      let m : ℕ = (at es i).class in
      let q : Place = with_class p m in
      let st = stored p es (has (p, es) e) in
      let cl = st.closed m (inr (i, l, refl)) in
      let agree : at cl.0 i ≡ at es i = cl.2 i l (below-refl ls m) in
      let within : i < length cl.0 = omega (arith, (stored q cl.0 cl.1).count, st.count) in
      let cell : Cell = cell_at q i (at cl.0 i) in
      let there = (of.cells cell).1 (
        (q, cl.0),
        down (p, es) (q, cl.0) e cl.1 (st.greatest m (inr (i, l, refl))),
        cell_among 0 q cl.0 i i within (omega arith) (ap (λ x. x.class) agree),
      ) in
      let found = are.complete cell there in
      let here : held (q, i) ≡ Some found.0 = ap (λ (x : Element). held (with_class p x.class, i)) (sym agree) ∙ found.1
      in
      here ∙ ap Some (value_found q cl.0 cl.1 i found.0 here ∙ ap (λ x. x.value) agree)

  elements_in : (e : Entry) → In e → elements_of held (node_of e) ≡ e.1
  elements_in e h = same_elements held e.0 0 e.1 (λ i j l q.
      ap (λ o. unwrap_or o None) (ap (λ j. held (with_class e.0 (at e.1 i).class, j)) (q ∙ zero-add i)
      ∙ value_at e.0 e.1 h i l))

  pub rows_in : (found : Place → Option (List Element)) → AreRows held ns found → (e : Entry) → (found e.0 ≡ Some e.1)
      ↔ In e
  rows_in found rows e = (sound e, complete)
    where
      sound : (e : Entry) → found e.0 ≡ Some e.1 → In e
      sound e g =
          let r = rows.sound e.0 e.1 g in
          let f = (of.nodes r.0).0 r.1 in
          let q : f.0.0 ≡ e.0 = ap place_of_node (sym f.2) ∙ r.2 in
          let same : f.0.1 ≡ e.1 = sym (elements_in f.0 f.1) ∙ ap (elements_of held) (sym f.2) ∙ r.3 in
          subst In (λ t. (q t, same t)) f.1

      complete : In e → found e.0 ≡ Some e.1
      complete h =
          let r = rows.complete (node_of e) ((of.nodes (node_of e)).1 (e, h, refl)) in
          r.1 ∙ sym (has (e.0, r.0) (sound (e.0, r.0) r.1)) ∙ has e h

-- of those of classes that c dominates
pub rows_low : (ls : Labels) (n : ℕ) (T : Table) → IsStored ls n T → (c : ℕ) (ns : List Node) (ds : List Cell)
    → AreLow ls T c (length ls) ns ds → (held : CellPlace → Option (Option Value)) → AreValues ds held
    → (found : Place → Option (List Element)) → AreRows held ns found → (e : Entry) → (found e.0 ≡ Some e.1)
    ↔ ((get T e.0 ≡ Some e.1) × (below ls e.0.class c ≡ true))
rows_low ls n T stored c ns ds low held are found rows e = (
  (λ g. let h = r.0 g in (h.0, h.2)),
  (λ h. r.1 (h.0, declared e h.0, h.1)),
)
  where
    declared : (f : Entry) → get T f.0 ≡ Some f.1 → f.0.class < length ls
    declared f g = let st = stored f.0 f.1 g in st.declared f.0.class st.own

    r : (found e.0 ≡ Some e.1) ↔ IsLowEntry ls T c (length ls) e
    r =
        rows_in ls n T stored (IsLowEntry ls T c (length ls)) (λ f h. h.0) (λ f g h k b. (
          k,
          declared g k,
          below-trans ls g.0.class f.0.class c b h.2,
        ))
        ns ds low held are found rows e

-- of all
pub rows_all : (ls : Labels) (n : ℕ) (T : Table) → IsStored ls n T → (ns : List Node) (ds : List Cell)
    → AreOf (λ e. get T e.0 ≡ Some e.1) ns ds → (held : CellPlace → Option (Option Value)) → AreValues ds held
    → (found : Place → Option (List Element)) → AreRows held ns found → (e : Entry) → (found e.0 ≡ Some e.1)
    ↔ (get T e.0 ≡ Some e.1)
rows_all ls n T stored ns ds all held are found rows e = rows_in ls n T stored (λ e. get T e.0 ≡ Some e.1) (λ f h. h)
    (λ f g h k b. k) ns ds all held are found rows e
