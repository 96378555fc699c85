-- Rows in order, cut where an entity begins.
use Rattle.std.proofs.Common.{◌≡◌, inl, inr, ℕ, zero, suc, ◌≤◌, Bool, true, false, not, ◌&&◌, List, [], ◌∷◌, ◌++◌, filter, length, take, drop, get_or, Less, Equal, Greater, Ordering, refl, sym, ap, ◌∙◌, arith, true≢false, IsPermutation, IsSorted, is_lt, nat_cmp, get_or-take, length-take}
use Rattle.std.specs.List.{AllWithin}
use Rattle.std.specs.List.Sorted.{IsPartitionedBy, IsPartitionPoint}
use Rattle.std.specs.Cmp.{IsTotalOrder}
use Rattle.std.specs.Cmp.Lexicographic.{slice_cmp}
use Rattle.std.specs.Ordering.{on, then_cmp, ordering_then, ordering_reverse}
use Rattle.std.proofs.lemmas.Bool.{cases_Bool}
use Rattle.std.proofs.lemmas.Cmp.{on_total, then_total, nat_cmp_total, nat_list_cmp_total}
use Rattle.std.proofs.lemmas.List.Sorted.{ranks_by, sorted_far, IsPermutation-refl, IsPermutation-trans, IsPermutation-cons, IsPermutation-middle}
use Rattle.mls_tables.specs.declared.rows.NodeRow.{NodeRow}
use Rattle.mls_tables.specs.declared.rows.CellRow.{CellRow}
use Rattle.mls_fragments.specs.Parts.{before, AreNodesInOrder, AreCellsInOrder, IsCut}
use Rattle.mls_rows.proofs.RowOrderLemmas.{node_cmp, node_total, cell_cmp, cell_total}

-- ---- where a test turns, it cuts

module _ {R : Type 0} (test : R → Bool) where
  cut_at : (rows : List R) (i : ℕ) → AllWithin (λ r. test r ≡ true) rows 0 i → AllWithin (λ r. test r ≡ false) rows i
      (length rows)
      → (take i rows ≡ filter test rows) × (drop i rows ≡ filter (λ r. not (test r)) rows)
  cut_at [] zero before after = (refl, refl)
  cut_at [] (suc i) before after = (refl, refl)
  cut_at (r ∷ rows) zero before after =
      let here : test r ≡ false = after 0 r (omega arith) (omega arith) in
      let rest = cut_at rows zero (λ k d l m. absurd (omega (arith, m))) (λ k d l m. after (suc k) d (omega arith)
      (omega (arith, m))) in
      (rw here rest.0, rw here (ap (λ l. r ∷ l) rest.1))
  cut_at (r ∷ rows) (suc i) before after =
      let here : test r ≡ true = before 0 r (omega arith) (omega arith) in
      let rest = cut_at rows i (λ k d l m. before (suc k) d (omega arith) (omega (arith, m)))
      (λ k d l m. after (suc k) d (omega (arith, l)) (omega (arith, m))) in
      (rw here (ap (λ l. r ∷ l) rest.0), rw here rest.1)

  pub cuts : (rows : List R) (i : ℕ) → i ≤ length rows → IsPartitionPoint (λ r. test r ≡ true) (λ r. test r
      ≡ false) rows i → IsCut test rows i
  cuts rows i bound point = let c = cut_at rows i point.0 point.1 in record { bound = bound; first = c.0; last = c.1 }

  -- what comes before a cut is in the order of all
  pub still_parted : (rows : List R) (n : ℕ) → IsPartitionedBy test rows → IsPartitionedBy test (take n rows)
  still_parted rows n parted i j d l m h =
      let short : length (take n rows) ≤ n = omega (arith, length-take n rows) in
      let all : length (take n rows) ≤ length rows = omega (arith, length-take n rows) in
      ap test (get_or-take n rows i d (omega (arith, l, m, short)))
      ∙ parted i j d l (omega (arith, m, all)) (sym (ap test (get_or-take n rows j d (omega (arith, m, short)))) ∙ h)

-- ---- sorted rows are in order

abbrev Key : Type 0
Key = ℕ × List ℕ

abbrev key_cmp : Key → Key → Ordering
key_cmp = then_cmp (on (λ k. k.0) nat_cmp) (on (λ k. k.1) (slice_cmp nat_cmp))

key_total : IsTotalOrder key_cmp
key_total = then_total (on_total (λ (k : Key). k.0) nat_cmp_total) (on_total (λ k. k.1) nat_list_cmp_total)

-- a key that is not after one before another is before it too
before_too : (a b k : Key) → is_lt (key_cmp b a) ≡ false → is_lt (key_cmp b k) ≡ true → is_lt (key_cmp a k) ≡ true
before_too a b k up h = by (key_cmp a b) (key_cmp b k) refl refl
  where
    by : (o p : Ordering) → key_cmp a b ≡ o → key_cmp b k ≡ p → is_lt (key_cmp a k) ≡ true
    by Less Less e f = ap is_lt (key_total.trans a b k e f)
    by Equal Less e f = ap is_lt (key_total.congr a b k e ∙ f)
    by Greater Less e f = absurd (true≢false (sym (ap is_lt (key_total.antisymm b a ∙ ap ordering_reverse e)) ∙ up))
    by o Equal e f = absurd (true≢false (sym h ∙ ap is_lt f))
    by o Greater e f = absurd (true≢false (sym h ∙ ap is_lt f))

-- where the keys come first in an order
first_two : (a b c : Ordering) → is_lt (ordering_then a (ordering_then b c)) ≡ false → is_lt (ordering_then a b) ≡ false
first_two Less b c h = h
first_two Equal Less c h = h
first_two _ _ c h = refl

abbrev rest_of_node : NodeRow → NodeRow → Ordering
rest_of_node = then_cmp (on (λ r. r.kclass) nat_cmp) (then_cmp (on (λ r. r.label) nat_cmp)
    (on (λ r. r.pattern) (slice_cmp nat_cmp)))

abbrev rest_of_cell : CellRow → CellRow → Ordering
rest_of_cell = then_cmp (on (λ r. r.kclass) nat_cmp) (then_cmp (on (λ r. r.label) nat_cmp)
    (then_cmp (on (λ r. r.attr) nat_cmp) (on (λ r. r.value) (slice_cmp nat_cmp))))

module _ {R : Type 0} (cmp : R → R → Ordering) (total : IsTotalOrder cmp) (key : R → Key) (first : (x y : R)
    → is_lt (cmp y x) ≡ false → is_lt (key_cmp (key y) (key x)) ≡ false) where
  parted : (rows : List R) → IsSorted cmp rows → (k : Key) → IsPartitionedBy (λ r. is_lt (key_cmp (key r) k)) rows
  parted rows sorted k i j d l m h =
      let x = get_or rows i d in
      let y = get_or rows j d in
      before_too (key x) (key y) k (first x y (sorted_far (λ a b. is_lt (cmp a b))
      (ranks_by total (λ r. r)) rows sorted i j d l m)) h

pub nodes_in_order : (rows : List NodeRow) → IsSorted node_cmp rows → AreNodesInOrder rows
nodes_in_order rows sorted relation ent = parted node_cmp node_total (λ r. (r.rel, r.ent))
    (λ x y h. first_two (nat_cmp y.rel x.rel) (slice_cmp nat_cmp y.ent x.ent) (rest_of_node y x) h) rows sorted
    (relation, ent)

pub cells_in_order : (rows : List CellRow) → IsSorted cell_cmp rows → AreCellsInOrder rows
cells_in_order rows sorted relation ent = parted cell_cmp cell_total (λ r. (r.rel, r.ent))
    (λ x y h. first_two (nat_cmp y.rel x.rel) (slice_cmp nat_cmp y.ent x.ent) (rest_of_cell y x) h) rows sorted
    (relation, ent)

-- ---- tests on rows

-- those that pass one test, and then another
pub filter_both : {R : Type 0} (p q : R → Bool) (rows : List R) → filter q (filter p rows)
    ≡ filter (λ r. p r && q r) rows
filter_both p q [] = refl
filter_both p q (r ∷ rows) = elim (cases_Bool (p r)) [
  | inl a ↦ elim (cases_Bool (q r)) [
    | inl b ↦ rw (a, b, filter_both p q rows)
    | inr b ↦ rw (a, b, filter_both p q rows)
  ]
  | inr a ↦ rw (a, filter_both p q rows)
]

-- what is left of rows, and what is taken off it and was before, are all rows but what is left now
pub taken_off : {R : Type 0} (left kept : R → Bool) (rows : List R)
    → IsPermutation (filter (λ r. left r && not (kept r)) rows ++ filter (λ r. not (left r)) rows)
    (filter (λ r. not (left r && kept r)) rows)
taken_off left kept [] = IsPermutation-refl []
taken_off left kept (r ∷ rows) = elim (cases_Bool (left r)) [
  | inl a ↦ elim (cases_Bool (kept r)) [
    | inl b ↦ rw (a, b) (taken_off left kept rows)
    | inr b ↦ rw (a, b) (IsPermutation-cons r _ _ (taken_off left kept rows))
  ]
  | inr a ↦ rw a (IsPermutation-trans _ _ _ (IsPermutation-middle _ r _) (IsPermutation-cons r _ _
      (taken_off left kept rows)))
]

-- no row passes, and all are behind the cut
pub cut_first : {R : Type 0} (rows : List R) → IsCut (λ r. false) rows 0
cut_first rows = cuts (λ r. false) rows 0 (omega arith) ((λ k d l m. absurd (omega (arith, m))), (λ k d l m. refl))
