-- The view of a list of tuples, from its steps.
use Rattle.std.proofs.Common.{◌≡◌, ℕ, ◌<◌, Bool, true, false, cond, List, [], ◌∷◌, map, Option, Some, None, refl, sym, ap, ◌∙◌, subst, inl, inr, ◌↔◌, filter, nat_cmp, is_lt}
use Rattle.std.specs.List.{AllByRecursion}
use Rattle.std.specs.List.Sorted.{IsStrictlySortedBy}
use Rattle.std.specs.Ordering.{ordering_then}
use Rattle.std.specs.declared.cmp.Ordering.{Ordering}
use Rattle.std.specs.declared.cmp.Ordering.TheVariants.{Less, Equal, Greater}
use Rattle.std.specs.Option.{option_cmp}
use Rattle.std.specs.Cmp.Lexicographic.{slice_cmp}
use Rattle.std.specs.FinMap.{IsAntisymmetric, slice_cmp-IsAntisymmetric, nat_cmp-IsAntisymmetric, get, entries, entries_sorted, is_sorted}
use Rattle.std.specs.FinMap.Entries.{below_all}
use Rattle.std.proofs.lemmas.Cmp.{tied_itself}
use Rattle.std.proofs.lemmas.List.Kept.{IsStrictlySortedBy-filter}
use Rattle.std.proofs.lemmas.Bool.{and_from}
use Rattle.std.proofs.lemmas.Option.{same_Some}
use Rattle.mls_lattice.specs.Labels.{Labels, below, AreDistinct}
use Rattle.mls_lattice.proofs.LatticeLemmas.{below-antisym}
use Rattle.mls_scheme.specs.declared.value.Value.{Value}
use Rattle.mls_scheme.specs.declared.tuple.Element.{Element}
use Rattle.mls_scheme.specs.declared.tuple.Tuple.{Tuple}
use Rattle.mls_scheme.specs.Value.{value_cmp}
use Rattle.mls_scheme.specs.Tuple.{HasClassesBelow}
use Rattle.mls_scheme.specs.Table.{place_cmp, Table, Has, IsIn, tuple_at, place_of}
use Rattle.mls_scheme.proofs.OrderLemmas.{value_exact, then_ties, place_exact}
use Rattle.mls_filterview.specs.Subsumption.{Subsumes, IsMax, is_max_among, entity_cmp, AreByEntity}
use Rattle.mls_filterview.specs.View.{hide, filtered, Filter, View, low, rows, IsAmong}
use Rattle.mls_filterview.specs.Stored.{IsStored}
use Rattle.mls_filterview.specs.Filtering.{EachOnce, seen, class_number, row_of, element_cmp, row_cmp}
use Rattle.mls_filterview.specs.RowOrder.{row_total}
use Rattle.mls_filterview.proofs.ClassLemmas.{class_top}
use Rattle.mls_filterview.proofs.LevelLemmas.{SameTuples, max_of_same, View-same}
use Rattle.mls_filterview.proofs.AmongLemmas.{among_map, map_among, among_filter, filter_among, all_at}
use Rattle.mls_filterview.proofs.EntryLemmas.{Entry, among_entries, sorted_filter, so_true, same_lists}
use Rattle.mls_filterview.proofs.RowLemmas.{max_among, among_max, on_top, in_table, rows-view}
use Rattle.mls_filterview.proofs.EntityLemmas.{by_entity, maximal, tuples_of}

-- ---- the order of rows

same_value : (v w : Option Value) → option_cmp value_cmp v w ≡ Equal → v ≡ w
same_value None None e = refl
same_value None (Some w) e = absurd (cc)
same_value (Some v) None e = absurd (cc)
same_value (Some v) (Some w) e = ap Some (value_exact v w e)

element_exact : IsAntisymmetric element_cmp
element_exact e f h =
    let t = then_ties (option_cmp value_cmp e.value f.value) (nat_cmp e.class f.class) h in
    let v = same_value e.value f.value t.0 in
    let c = nat_cmp-IsAntisymmetric e.class f.class t.1 in
    λ i. record { value = v i; class = c i }

pub row_exact : IsAntisymmetric row_cmp
row_exact r s h =
    let t = then_ties (place_cmp r.0 s.0) (slice_cmp element_cmp r.1 s.1) h in
    let p = place_exact r.0 s.0 t.0 in
    let e = slice_cmp-IsAntisymmetric element_exact r.1 s.1 t.1 in
    λ i. (p i, e i)

-- ---- what is seen

module _ (ls : Labels) (c : ℕ) (ts : List Tuple) where
  abbrev X : Tuple → Type 0
  X s = IsAmong s ts

  pub seen-filter : (t : Tuple) → IsAmong t (seen ls c ts) ↔ Filter ls X c t
  seen-filter t = (
    (λ h.
        let r = among_map (filtered ls c) (filter (λ t. below ls t.key_class c) ts) t h in
        let k = among_filter (λ t. below ls t.key_class c) ts r.0 r.1 in
        (r.0, k.0, k.1, r.2)),
    (λ f.
        subst (λ x. IsAmong x (seen ls c ts)) (sym f.3)
        (map_among (filtered ls c) (filter (λ t. below ls t.key_class c) ts) f.0
        (filter_among (λ t. below ls t.key_class c) ts f.0 f.1 f.2))),
  )

-- ---- classes stay in bounds

bounded_map : (n : ℕ) (ls : Labels) (c k : ℕ) → k < n → (es : List Element) → AllByRecursion (λ e. e.class < n) es
    → AllByRecursion (λ e. e.class < n) (map (hide ls c k) es)
bounded_map n ls c k l [] h = tt
bounded_map n ls c k l (e ∷ es) h = (hidden (below ls e.class c), bounded_map n ls c k l es h.1)
  where
    hidden : (b : Bool) → (cond b e (record { value = None; class = k })).class < n
    hidden true = h.0
    hidden false = l

pub seen_bounded : (n : ℕ) (ls : Labels) (c : ℕ) (ts : List Tuple) → AllByRecursion (HasClassesBelow n) ts
    → AllByRecursion (HasClassesBelow n) (seen ls c ts)
seen_bounded n ls c [] h = tt
seen_bounded n ls c (t ∷ ts) h =
    elim (below ls t.key_class c) as (λ b. AllByRecursion (HasClassesBelow n)
    (map (filtered ls c) (cond b (t ∷ filter (λ t. below ls t.key_class c) ts)
    (filter (λ t. below ls t.key_class c) ts)))) [
      | true ↦ (
        record {
          key_class = h.0.key_class;
          elements =
              bounded_map n ls c t.key_class h.0.key_class t.elements h.0.elements;
        },
        seen_bounded n ls c ts h.1,
      )
      | false ↦ seen_bounded n ls c ts h.1
    ]

-- ---- the number of a stored tuple's class

pub class_number-stored : (ls : Labels) → AreDistinct ls → (n : ℕ) (T : Table) → IsStored ls n T → (m : ℕ) (t : Tuple)
    → Has T m t → class_number ls t ≡ m
class_number-stored ls distinct n T stored m t h =
    let st = stored (place_of m t) t.elements h in
    let top = class_top ls t st.comparable in
    below-antisym ls distinct (class_number ls t) m (st.declared (class_number ls t) top.own) (st.declared m st.own)
    (st.greatest (class_number ls t) top.own) (top.greatest m st.own)

-- ---- rows in order

-- rows that come from tuples, in order and each once
pub record AreRows (ls : Labels) (us : List Tuple) (es : List Entry) : Type 0 where
  pub sorted : IsStrictlySortedBy row_cmp es
  pub from : (r : Entry) → IsAmong r es → IsAmong r (map (row_of ls) us)
  pub kept : (r : Entry) → IsAmong r (map (row_of ls) us) → (s : Entry) × IsAmong s es × (row_cmp r s ≡ Equal)

not_less : (r s : Entry) → row_cmp r s ≡ Less → r ≡ s → ⊥
not_less r s l e = less_equal (sym (subst (λ x. row_cmp r x ≡ Equal) e (tied_itself row_total r)) ∙ l)
  where
    less_equal : Equal ≡ Less → ⊥
    less_equal h = cc

-- rows in order, each that of its tuple
pub record AreOwn (ls : Labels) (es : List Entry) : Type 0 where
  pub sorted : IsStrictlySortedBy row_cmp es
  pub own : (r : Entry) → IsAmong r es → r ≡ row_of ls (tuple_at r.0 r.1)

once_from : (ls : Labels) (es : List Entry) → IsStrictlySortedBy row_cmp es → ((r : Entry) → IsAmong r es
    → r ≡ row_of ls (tuple_at r.0 r.1)) → EachOnce (tuples_of es)
unfolding EachOnce IsStrictlySortedBy
once_from ls [] s h = tt
once_from ls (e ∷ es) s h = (
  (λ i.
      let d = among_map (λ (r : Entry). tuple_at r.0 r.1) es (tuple_at e.0 e.1) i in
      not_less e d.0 (all_at (λ d. row_cmp e d ≡ Less) es s.0 d.0 d.1) (h e (inl refl) ∙ ap (row_of ls) d.2
      ∙ sym (h d.0 (inr d.1)))),
  once_from ls es s.1 (λ r i. h r (inr i)),
)

pub rows-once : (ls : Labels) (es : List Entry) → AreOwn ls es → EachOnce (tuples_of es)
rows-once ls es h = once_from ls es h.sorted h.own

module _ (ls : Labels) (us : List Tuple) (es : List Entry) (are : AreRows ls us es) where
  pub rows-own : AreOwn ls es
  rows-own = record {
    sorted = are.sorted;
    own = λ r h. (let x = among_map (row_of ls) us r (are.from r h)
        in x.2 ∙ ap (row_of ls) (sym (ap (λ (z : Entry). tuple_at z.0 z.1) x.2)));
  }

  pub rows-members : (t : Tuple) → IsAmong t (tuples_of es) ↔ IsAmong t us
  rows-members t = (
    (λ h.
        let r = among_map (λ (r : Entry). tuple_at r.0 r.1) es t h in
        let u = among_map (row_of ls) us r.0 (are.from r.0 r.1) in
        subst (λ x. IsAmong x us) (sym (r.2 ∙ ap (λ (z : Entry). tuple_at z.0 z.1) u.2)) u.1),
    (λ h.
        let s = are.kept (row_of ls t) (map_among (row_of ls) us t h) in
        let e : row_of ls t ≡ s.0 = row_exact (row_of ls t) s.0 s.2 in
        subst (λ x. IsAmong x (tuples_of es)) (sym (ap (λ (z : Entry). tuple_at z.0 z.1) e))
        (map_among (λ (r : Entry). tuple_at r.0 r.1) es s.0 s.1)),
  )

-- ---- and those of them that no other one subsumes

by_entity_first : (o q n : Ordering) → ordering_then (ordering_then o n) q ≡ Less → o ≡ Greater → ⊥
by_entity_first Less q n h e = cc
by_entity_first Equal q n h e = cc
by_entity_first Greater q n h e = cc

entities_after : (e : Entry) (es : List Entry) → AllByRecursion (λ d. row_cmp e d ≡ Less) es
    → AllByRecursion (λ d. entity_cmp e.0 d.0 ≡ Greater → ⊥) es
entities_after e [] h = tt
entities_after e (d ∷ es) h = (
  by_entity_first (entity_cmp e.0 d.0) (slice_cmp element_cmp e.1 d.1) (nat_cmp e.0.class d.0.class)
      (ap (λ o. ordering_then o (slice_cmp element_cmp e.1 d.1)) (sym (by_entity e.0 d.0)) ∙ h.0),
  entities_after e es h.1,
)

pub rows-by_entity : (es : List Entry) → IsStrictlySortedBy row_cmp es → AreByEntity es
unfolding IsStrictlySortedBy
rows-by_entity [] s = tt
rows-by_entity (e ∷ es) s = (entities_after e es s.0, rows-by_entity es s.1)

pub maximal-own : (ls : Labels) (es : List Entry) → AreOwn ls es → AreOwn ls (maximal es)
maximal-own ls es h = record {
  sorted = IsStrictlySortedBy-filter row_cmp (is_max_among es) es h.sorted;
  own = λ r i. h.own r (among_filter (is_max_among es) es r i).0;
}

maximal-members : (es : List Entry) (t : Tuple) → IsAmong t (tuples_of (maximal es))
    ↔ IsMax (λ s. IsAmong s (tuples_of es)) t
maximal-members es t = (
  (λ h.
      let r = among_map (λ (r : Entry). tuple_at r.0 r.1) (maximal es) t h in
      let k = among_filter (is_max_among es) es r.0 r.1 in (
        subst (λ x. IsAmong x (tuples_of es)) (sym r.2) (map_among (λ (r : Entry). tuple_at r.0 r.1) es r.0 k.0),
        λ s i u.
            let d = among_map (λ (r : Entry). tuple_at r.0 r.1) es s i in
            d.2 ∙ among_max es r.0 k.1 d.0 d.1 (subst (λ x. Subsumes (tuple_at d.0.0 d.0.1) x) r.2
            (subst (λ x. Subsumes x t) d.2 u)) ∙ sym r.2,
      )),
  (λ m.
      let d = among_map (λ (r : Entry). tuple_at r.0 r.1) es t m.0 in
      let top = max_among es d.0 (λ x i k. m.1 (tuple_at x.0 x.1) (map_among (λ (r : Entry). tuple_at r.0 r.1) es x i)
      (subst (λ y. Subsumes (tuple_at x.0 x.1) y) (sym d.2) k) ∙ d.2) in
      subst (λ x. IsAmong x (tuples_of (maximal es))) (sym d.2) (map_among (λ (r : Entry). tuple_at r.0 r.1)
      (maximal es) d.0 (filter_among (is_max_among es) es d.0 d.1 top))),
)

-- they are the view
pub maximal-view : (ls : Labels) (c : ℕ) (ts : List Tuple) (es : List Entry) → AreRows ls (seen ls c ts) es
    → (t : Tuple) → IsAmong t (tuples_of (maximal es)) ↔ View ls (λ s. IsAmong s ts) c t
maximal-view ls c ts es are t = (
  (λ h. max_of_same (λ s. IsAmong s (tuples_of es)) (Filter ls (λ s. IsAmong s ts) c) both t
      ((maximal-members es t).0 h)),
  (λ v. (maximal-members es t).1 (max_of_same (Filter ls (λ s. IsAmong s ts) c) (λ s. IsAmong s (tuples_of es))
      (λ s. ((both s).1, (both s).0)) t v)),
)
  where
    both : SameTuples (λ s. IsAmong s (tuples_of es)) (Filter ls (λ s. IsAmong s ts) c)
    both s = let m = rows-members ls (seen ls c ts) es are s in let f = seen-filter ls c ts s
        in ((λ h. f.0 (m.0 h)), (λ h. m.1 (f.1 h)))

-- ---- where the tuples are those of a stored table

-- at most one entry stands at a place
abbrev IsFunctional : List Entry → Type 0
IsFunctional es = (d e : Entry) → IsAmong d es → IsAmong e es → d.0 ≡ e.0 → d ≡ e

less_place : (o q : Ordering) → ordering_then o q ≡ Less → (o ≡ Equal → ⊥) → is_lt o ≡ true
less_place Less q h n = refl
less_place Equal q h n = absurd (n refl)
less_place Greater q h n = absurd (cc)

below_each : (e : Entry) (es : List Entry) → AllByRecursion (λ d. row_cmp e d ≡ Less) es → ((d : Entry) → IsAmong d es
    → e.0 ≡ d.0 → e ≡ d) → below_all place_cmp e.0 es ≡ true
below_each e [] h f = refl
below_each e (d ∷ es) h f =
    and_from _ _ (less_place (place_cmp e.0 d.0) (slice_cmp element_cmp e.1 d.1) h.0
    (λ q. not_less e d h.0 (f d (inl refl) (place_exact e.0 d.0 q))))
    (below_each e es h.1 (λ x i. f x (inr i)))

by_place : (es : List Entry) → IsStrictlySortedBy row_cmp es → IsFunctional es → is_sorted place_cmp es ≡ true
unfolding IsStrictlySortedBy
by_place [] s f = refl
by_place (e ∷ es) s f = and_from _ _ (below_each e es s.0 (λ d i q. f e d (inl refl) (inr i) q))
    (by_place es s.1 (λ d x i j q. f d x (inr i) (inr j) q))

module _ (ls : Labels) (distinct : AreDistinct ls) (n : ℕ) (T : Table) (stored : IsStored ls n T) (c : ℕ)
    (ts : List Tuple) (same : (t : Tuple) → IsAmong t ts ↔ IsIn T t)
    (es : List Entry) (are : AreOwn ls es) (members : (t : Tuple) → IsAmong t (tuples_of es)
    ↔ View ls (λ s. IsAmong s ts) c t) where
  abbrev top : List Entry
  top = on_top ls distinct n T stored c

  -- a row and an entry of one tuple are one
  is_entry : (r d : Entry) → IsAmong r es → IsAmong d top → tuple_at r.0 r.1 ≡ tuple_at d.0 d.1 → r ≡ d
  is_entry r d i j e =
      let h = in_table ls distinct n T stored c d (among_entries (low ls c T) d
      (among_filter _ (entries (low ls c T)) d j).0) in
      are.own r i ∙ (λ k. (place_of (class_number ls (e k)) (e k), (e k).elements))
      ∙ (λ k. (
        place_of (class_number-stored ls distinct n T stored d.0.class (tuple_at d.0 d.1) h k)
            (tuple_at d.0 d.1),
        d.1,
      ))

  in_view : (t : Tuple) → IsAmong t (tuples_of es) ↔ IsAmong t (rows ls c T)
  in_view t =
      let v = rows-view ls distinct n T stored c t in
      let w = View-same ls c (λ s. IsAmong s ts) (IsIn T) same t in
      let m = members t in
      ((λ h. v.1 (w.0 (m.0 h))), (λ h. m.1 (w.1 (v.0 h))))

  to_entry : (r : Entry) → IsAmong r es → (d : Entry) × IsAmong d top × (r ≡ d)
  unfolding rows
  to_entry r i =
      let d = among_map (λ (r : Entry). tuple_at r.0 r.1) top (tuple_at r.0 r.1) ((in_view (tuple_at r.0 r.1)).0
      (map_among (λ (r : Entry). tuple_at r.0 r.1) es r i)) in
      (d.0, d.1, is_entry r d.0 i d.1 d.2)

  from_entry : (d : Entry) → IsAmong d top → IsAmong d es
  unfolding rows
  from_entry d j =
      let r = among_map (λ (r : Entry). tuple_at r.0 r.1) es (tuple_at d.0 d.1) ((in_view (tuple_at d.0 d.1)).1
      (map_among (λ (r : Entry). tuple_at r.0 r.1) top d j)) in
      subst (λ x. IsAmong x es) (is_entry r.0 d r.1 j (sym r.2)) r.1

  pub rows-stored : tuples_of es ≡ rows ls c T
  unfolding rows
  rows-stored = ap tuples_of (same_lists es top (by_place es are.sorted functional)
      (sorted_filter _ (entries (low ls c T)) (so_true _ (entries_sorted (low ls c T)))) (λ e. (
        (λ i. (let d = to_entry e i in subst (λ x. IsAmong x top) (sym d.2) d.1)),
        from_entry e,
      )))
    where
      found : (d : Entry) → IsAmong d top → get (low ls c T) d.0 ≡ Some d.1
      found d j = among_entries (low ls c T) d (among_filter _ (entries (low ls c T)) d j).0

      functional : IsFunctional es
      functional d e i j q =
          let x = to_entry d i in
          let y = to_entry e j in
          let p : x.0.0 ≡ y.0.0 = sym (ap (λ (z : Entry). z.0) x.2) ∙ q ∙ ap (λ (z : Entry). z.0) y.2 in
          let u : x.0.1 ≡ y.0.1 = same_Some x.0.1 y.0.1 (sym (found x.0 x.1) ∙ ap (get (low ls c T)) p ∙ found y.0 y.1)
          in
          x.2 ∙ (λ k. (p k, u k)) ∙ sym y.2
