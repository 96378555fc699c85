-- The tuples of a dump stand upward.
use Rattle.std.proofs.Common.{◌≡◌, ℕ, ◌<◌, Bool, true, false, List, [], ◌∷◌, map, refl, sym, ap, ◌∙◌, subst, inl, inr, cond, flat_map, nat_eq, lt-ltb, is_lt, nat_cmp, ◌&&◌}
use Rattle.std.specs.List.Sorted.{IsStrictlySortedBy}
use Rattle.std.specs.Ordering.{ordering_then}
use Rattle.std.specs.declared.cmp.Ordering.{Ordering}
use Rattle.std.specs.declared.cmp.Ordering.TheVariants.{Less, Equal, Greater}
use Rattle.std.specs.FinMap.{entries, entries_sorted, is_sorted}
use Rattle.std.specs.Cmp.{nat_cmp_total}
use Rattle.std.specs.FinMap.Entries.{below_all}
use Rattle.std.proofs.lemmas.Cmp.{tied_itself}
use lib.Dec.{T as IsSo}
use Rattle.mls_lattice.specs.Labels.{Labels, AreDistinct}
use Rattle.mls_scheme.specs.declared.place.Place.{Place}
use Rattle.mls_scheme.specs.declared.tuple.Tuple.{Tuple}
use Rattle.mls_scheme.specs.Table.{place_cmp, Table, place_of, tuple_at}
use Rattle.mls_filterview.specs.View.{low, IsAmong}
use Rattle.mls_filterview.specs.Filtering.{class_number}
use Rattle.mls_filterview.specs.Stored.{IsStored}
use Rattle.mls_filterview.specs.Reach.{reach, of_class, upward, low_tuples}
use Rattle.mls_filterview.proofs.AmongLemmas.{among_map, map_among, among_flat_map, each_among}
use Rattle.mls_filterview.proofs.ClassLemmas.{class_top}
use Rattle.mls_filterview.proofs.EntryLemmas.{Entry}
use Rattle.mls_lives.specs.Upward.{ClassNumbersAreGreatest, upward_cmp, DumpsComeUpward}
use Rattle.mls_lives.proofs.UpwardLemmas.{Rises, rises_append, rises_filter, Before, upward_rises}
use Rattle.mls_lives.proofs.LoadLemmas.{of_number, in_number, has_number}

pub class_numbers_greatest : ClassNumbersAreGreatest
class_numbers_greatest ls t comparable = let top = class_top ls t comparable in (top.own, top.greatest)

-- ---- orders

less : (a b : ℕ) → a < b → nat_cmp a b ≡ Less
less a b h = ap (λ x. cond x Less (cond (nat_eq a b) Equal Greater)) (lt-ltb a b h)

tied : (a b : ℕ) → a ≡ b → nat_cmp a b ≡ Equal
tied a b e = ap (nat_cmp a) (sym e) ∙ tied_itself nat_cmp_total a

so_less : (o : Ordering) → IsSo (is_lt o) → o ≡ Less
so_less Less h = refl
so_less Equal h = absurd h
so_less Greater h = absurd h

so_first : (a b : Bool) → IsSo (a && b) → IsSo a
so_first true b h = tt
so_first false b h = h

so_second : (a b : Bool) → IsSo (a && b) → IsSo b
so_second true b h = h
so_second false b h = absurd h

sorted_of : {A : Type 0} (R : A → A → Ordering) (xs : List A) → Rises (λ x y. R x y ≡ Less) xs → IsStrictlySortedBy R xs
unfolding IsStrictlySortedBy
sorted_of R [] h = tt
sorted_of R (x ∷ xs) h = (each_among (λ y. R x y ≡ Less) xs h.0, sorted_of R xs h.1)

-- ---- entries in the order of places

abbrev Lower : Entry → Entry → Type 0
Lower d e = place_cmp d.0 e.0 ≡ Less

below_each : (p : Place) (es : List Entry) → IsSo (below_all place_cmp p es) → (e : Entry) → IsAmong e es
    → place_cmp p e.0 ≡ Less
below_each p [] h e i = absurd i
below_each p (d ∷ es) h e (inl q) = ap (λ (x : Entry). place_cmp p x.0) q ∙ so_less (place_cmp p d.0)
    (so_first (is_lt (place_cmp p d.0)) (below_all place_cmp p es) h)
below_each p (d ∷ es) h e (inr i) = below_each p es (so_second (is_lt (place_cmp p d.0))
    (below_all place_cmp p es) h) e i

entries_rise : (es : List Entry) → IsSo (is_sorted place_cmp es) → Rises Lower es
entries_rise [] h = tt
entries_rise (d ∷ es) h = (
  (λ e i. below_each d.0 es (so_first (below_all place_cmp d.0 es) (is_sorted place_cmp es) h) e i),
  entries_rise es (so_second (below_all place_cmp d.0 es) (is_sorted place_cmp es) h),
)

-- ---- tuples

module _ (ls : Labels) (c : ℕ) (T : Table) (distinct : AreDistinct ls) (n : ℕ) (stored : IsStored ls n T) where
  abbrev Up : Tuple → Tuple → Type 0
  Up s t = upward_cmp ls s t ≡ Less

  number_of : (m : ℕ) (t : Tuple) → IsAmong t (of_class (entries (low ls c T)) m) → class_number ls t ≡ m
  number_of = has_number ls c T distinct n stored

  by_place : (s t : Tuple) (m : ℕ) → class_number ls s ≡ m → class_number ls t ≡ m
      → place_cmp (place_of m s) (place_of m t) ≡ Less → Up s t
  by_place s t m one two lower =
      let same : class_number ls s ≡ class_number ls t = one ∙ sym two in
      ap (λ o. ordering_then o (ordering_then (nat_cmp (class_number ls s) (class_number ls t))
      (place_cmp (place_of (class_number ls s) s) (place_of (class_number ls t) t))))
      (tied _ _ (ap (reach ls) same))
      ∙ ap (λ o. ordering_then o (place_cmp (place_of (class_number ls s) s) (place_of (class_number ls t) t)))
      (tied _ _ same)
      ∙ (λ i. place_cmp (place_of (one i) s) (place_of (two i) t)) ∙ lower

  by_class : (s t : Tuple) (a b : ℕ) → class_number ls s ≡ a → class_number ls t ≡ b → Before ls a b → Up s t
  by_class s t a b one two (inl fewer) =
      ap (λ o. ordering_then o (ordering_then (nat_cmp (class_number ls s) (class_number ls t))
      (place_cmp (place_of (class_number ls s) s) (place_of (class_number ls t) t))))
      ((λ i. nat_cmp (reach ls (one i)) (reach ls (two i))) ∙ less (reach ls a) (reach ls b) fewer)
  by_class s t a b one two (inr same) =
      ap (λ o. ordering_then o (ordering_then (nat_cmp (class_number ls s) (class_number ls t))
      (place_cmp (place_of (class_number ls s) s) (place_of (class_number ls t) t))))
      (tied _ _ (ap (reach ls) one ∙ same.0 ∙ sym (ap (reach ls) two)))
      ∙ ap (λ o. ordering_then o (place_cmp (place_of (class_number ls s) s) (place_of (class_number ls t) t)))
      ((λ i. nat_cmp (one i) (two i)) ∙ less a b same.1)

  -- the tuples of one class
  class_rises : (m : ℕ) (es : List Entry) → ((e : Entry) → IsAmong e es → (e.0.class ≡ m)
      × (class_number ls (tuple_at e.0 e.1) ≡ m)) → Rises Lower es
      → Rises Up (map (λ (e : Entry). tuple_at e.0 e.1) es)
  class_rises m [] h k = tt
  class_rises m (d ∷ es) h k = (
    (λ t i.
        let (e, j, is) = among_map (λ (e : Entry). tuple_at e.0 e.1) es t i in
        let here = h d (inl refl) in
        let there = h e (inr j) in
        subst (Up (tuple_at d.0 d.1)) (sym is)
        (by_place (tuple_at d.0 d.1) (tuple_at e.0 e.1) m here.1 there.1
        ((λ x. place_cmp (place_of (sym here.0 x) (tuple_at d.0 d.1)) (place_of (sym there.0 x) (tuple_at e.0 e.1)))
        ∙ k.0 e j))),
    class_rises m es (λ e i. h e (inr i)) k.1,
  )

  all_rise : (ms : List ℕ) → Rises (Before ls) ms → Rises Up (flat_map (of_class (entries (low ls c T))) ms)
  all_rise [] h = tt
  all_rise (m ∷ ms) h =
      let es = of_number ls c T m in
      rises_append Up (of_class (entries (low ls c T)) m) (flat_map (of_class (entries (low ls c T))) ms)
      (class_rises m es (λ e i. (
        (in_number ls c T m e i).1,
        number_of m (tuple_at e.0 e.1)
            (map_among (λ (e : Entry). tuple_at e.0 e.1) es e i),
      ))
      (rises_filter Lower (λ (e : Entry). nat_eq e.0.class m) (entries (low ls c T))
      (entries_rise (entries (low ls c T)) (entries_sorted (low ls c T)))))
      (all_rise ms h.1)
      (λ s t i j.
      let r = among_flat_map (of_class (entries (low ls c T))) ms t j in
      by_class s t m r.0 (number_of m s i) (number_of r.0 t r.2) (h.0 r.0 r.1))

pub dumps_come_upward : DumpsComeUpward
unfolding low_tuples
dumps_come_upward ls distinct n c T stored = sorted_of (upward_cmp ls) _ (all_rise ls c T distinct n stored (upward ls)
    (upward_rises ls))
