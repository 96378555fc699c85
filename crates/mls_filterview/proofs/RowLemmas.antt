-- The rows are the view, in the order of places.
use Rattle.std.proofs.Common.{◌≡◌, ℕ, true, false, not, ◌&&◌, List, map, Some, refl, sym, ap, ◌∙◌, subst, ◌↔◌, IsTrue, filter, true≢false}
use Rattle.std.specs.List.{AllByRecursion}
use Rattle.std.specs.FinMap.{get, entries, entries_sorted, is_sorted}
use Rattle.std.proofs.lemmas.Bool.{and_parts, and_from, not-true, not_from_false, false_from_ne_true, true_from_ne_false}
use Rattle.mls_lattice.specs.Labels.{Labels, below, AreDistinct}
use Rattle.mls_scheme.specs.declared.tuple.Tuple.{Tuple}
use Rattle.mls_scheme.specs.Table.{place_cmp, Table, Has, IsIn, tuple_at, place_of}
use Rattle.mls_filterview.specs.Subsumption.{Subsumes, IsMax, subsumes_entry, is_max_among}
use Rattle.mls_filterview.specs.View.{View, low, rows, IsAmong}
use Rattle.mls_filterview.specs.Stored.{IsStored}
use Rattle.mls_filterview.specs.Laws.{RowsAreTheView}
use Rattle.mls_filterview.proofs.LowLemmas.{get_low_in, from_low}
use Rattle.mls_filterview.proofs.SubsumptionLemmas.{Subsumes-refl, Subsumes-antisym, subsumes_entry-true, subsumes_entry-from}
use Rattle.mls_filterview.proofs.ViewLemmas.{view-low}
use Rattle.mls_filterview.proofs.AmongLemmas.{among_map, map_among, among_filter, filter_among, none_of, all_none, each_among}
use Rattle.mls_filterview.proofs.EntryLemmas.{Entry, among_entries, entries_among, sorted_filter, so_true, so_from, entries_are}

-- ---- entries that no other one subsumes

subsumed_back : (d e : Entry) → Subsumes (tuple_at d.0 d.1) (tuple_at e.0 e.1)
    → (subsumes_entry d e && not (subsumes_entry e d)) ≡ false → subsumes_entry e d ≡ true
subsumed_back d e k f = true_from_ne_false (subsumes_entry e d)
    (λ z. true≢false (sym (and_from _ _ (subsumes_entry-from d e k) (not_from_false _ z)) ∙ f))

-- an entry whose tuple is that of each entry that subsumes it
pub max_among : (es : List Entry) (e : Entry) → ((d : Entry) → IsAmong d es
    → Subsumes (tuple_at d.0 d.1) (tuple_at e.0 e.1) → tuple_at d.0 d.1 ≡ tuple_at e.0 e.1) → is_max_among es e ≡ true
max_among es e h = not_from_false _ (all_none (λ d. subsumes_entry d e && not (subsumes_entry e d)) es
    (λ d i. false_from_ne_true _ (λ t.
    let p = and_parts _ _ t in
    let q = h d i (subsumes_entry-true d e p.0) in
    true≢false (sym (subsumes_entry-from e d (subst (λ x. Subsumes x (tuple_at d.0 d.1)) q
    (Subsumes-refl (tuple_at d.0 d.1)))) ∙ not-true _ p.1))))

-- and the tuple of such an entry is that of each entry that subsumes it
pub among_max : (es : List Entry) (e : Entry) → is_max_among es e ≡ true → (d : Entry) → IsAmong d es
    → Subsumes (tuple_at d.0 d.1) (tuple_at e.0 e.1) → tuple_at d.0 d.1 ≡ tuple_at e.0 e.1
among_max es e m d i k =
    Subsumes-antisym (tuple_at d.0 d.1) (tuple_at e.0 e.1) k
    (subsumes_entry-true e d (subsumed_back d e k (none_of (λ d. subsumes_entry d e && not (subsumes_entry e d)) es
    (not-true _ m) d i)))

module _ (ls : Labels) (distinct : AreDistinct ls) (n : ℕ) (T : Table) (stored : IsStored ls n T) (c : ℕ) where
  abbrev L : Table
  L = low ls c T

  -- the entries that no other one subsumes
  abbrev pub on_top : List Entry
  on_top = filter (is_max_among (entries L)) (entries L)

  pub in_table : (e : Entry) → get L e.0 ≡ Some e.1 → Has T e.0.class (tuple_at e.0 e.1)
  in_table e h = (from_low ls c T (tuple_at e.0 e.1) e.0.class h).0

  -- the test of an entry says whether its tuple is on top of low
  max-true : (e : Entry) → get L e.0 ≡ Some e.1 → is_max_among (entries L) e ≡ true → IsMax (IsIn L) (tuple_at e.0 e.1)
  max-true e h m = (
    (e.0.class, h),
    λ s i k. among_max (entries L) e m (place_of i.0 s, s.elements) (entries_among L (place_of i.0 s) s.elements i.1) k,
  )

  max-from : (e : Entry) → get L e.0 ≡ Some e.1 → IsMax (IsIn L) (tuple_at e.0 e.1) → is_max_among (entries L) e ≡ true
  max-from e h m = max_among (entries L) e (λ d i k. m.1 (tuple_at d.0 d.1) (d.0.class, among_entries L d i) k)

  -- the rows are just the tuples of the view
  pub rows-view : (t : Tuple) → IsAmong t (rows ls c T) ↔ View ls (IsIn T) c t
  unfolding rows
  rows-view t = (
    (λ i.
        let r = among_map (λ (e : Entry). tuple_at e.0 e.1) on_top t i in
        let f = among_filter (is_max_among (entries L)) (entries L) r.0 r.1 in
        (view-low ls n T stored c t).1 (subst (IsMax (IsIn L)) (sym r.2) (max-true r.0 (among_entries L r.0 f.0) f.1))),
    (λ v.
        let m = (view-low ls n T stored c t).0 v in
        let e : Entry = (place_of m.0.0 t, t.elements) in
        map_among (λ (e : Entry). tuple_at e.0 e.1) on_top e
        (filter_among (is_max_among (entries L)) (entries L) e (entries_among L e.0 e.1 m.0.1) (max-from e m.0.1 m))),
  )

  pub rows-sorted : (es : List Entry) × (rows ls c T ≡ map (λ e. tuple_at e.0 e.1) es) × IsTrue (is_sorted place_cmp es)
      × AllByRecursion (λ e. get T e.0 ≡ Some e.1) es
  unfolding rows
  rows-sorted = (
    on_top,
    refl,
    sorted_filter (is_max_among (entries L)) (entries L) (so_true _ (entries_sorted L)),
    each_among (λ e. get T e.0 ≡ Some e.1) on_top (λ e i.
        in_table e (among_entries L e (among_filter (is_max_among (entries L)) (entries L) e i).0)),
  )

-- the tuples of classes that c dominates, in order, are the entries of low
pub low-listed : (ls : Labels) (c : ℕ) (T : Table) (es : List Entry) → is_sorted place_cmp es ≡ true
    → ((e : Entry) → IsAmong e es ↔ ((get T e.0 ≡ Some e.1) × (below ls e.0.class c ≡ true)))
    → es ≡ entries (low ls c T)
low-listed ls c T es s h =
    entries_are (low ls c T) es (so_from _ s) (λ e. (
      (λ i. (let k = (h e).0 i in get_low_in ls c T e.0 k.1 ∙ k.0)),
      (λ g. (let f = from_low ls c T (tuple_at e.0 e.1) e.0.class g in (h e).1 f)),
    ))

-- so the rows may be computed from them
pub rows-listed : (ls : Labels) (c : ℕ) (T : Table) (es : List Entry) → es ≡ entries (low ls c T)
    → map (λ e. tuple_at e.0 e.1) (filter (is_max_among es) es) ≡ rows ls c T
unfolding rows
rows-listed ls c T es same = ap (λ xs. map (λ (e : Entry). tuple_at e.0 e.1) (filter (is_max_among xs) xs)) same

pub rows_are_the_view : RowsAreTheView
rows_are_the_view ls distinct n T stored c = (
  λ t. rows-view ls distinct n T stored c t,
  rows-sorted ls distinct n T stored c,
)
