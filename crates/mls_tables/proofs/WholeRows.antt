-- What the rows that a query showed of a whole table say of the table's.
use Rattle.std.proofs.Common.{◌≡◌, ℕ, ℤ, List, [], ◌∷◌, map, Bool, true, false, IsPermutation, refl, sym, ap, subst, ◌∙◌, int_lt, arith, length, is_eq, int_cmp}
use Rattle.std.specs.List.{AllByRecursion}
use Rattle.std.proofs.lemmas.Bool.Decides.{nat_tests}
use Rattle.std.proofs.lemmas.Int.{ints}
use Rattle.std.proofs.lemmas.List.Sorted.{IsPermutation-refl, IsPermutation-cons, IsPermutation-trans, IsPermutation-sym, IsPermutation-map}
use Rattle.sqlite_value.specs.declared.value.Value.{Value}
use Rattle.sqlite_value.specs.declared.value.Value.TheVariants.{Int}
use Rattle.sqlite_value.specs.Order.{Row, column, value_cmp}
use Rattle.sqlite_value.proofs.OrderLemmas.{value_cmp-Int}
use Rattle.sqlite_trees.specs.Tree.{rowid, IsAscending}
use Rattle.sqlite_trees.specs.View.{is_int}
use Rattle.sqlite_trees.proofs.ListLemmas.{along_permutation, all-permutation, all_from_map, ascending_from_map, map-map}
use Rattle.sqlite_rules.specs.Edit.{id_in}
use Rattle.sqlite_rules.proofs.TableLemmas.{int_is}
use Rattle.sqlite.proofs.Callers.{one_permutation}
use Rattle.mls_tables.specs.Statements.{IsApart, AreRows}
use Rattle.mls_tables.specs.Adopting.{AreRising}
use Rattle.mls_tables.proofs.ApartRows.{other_way, swapped}

abbrev differ : Value → Value → Type 0
differ a b = is_eq (value_cmp a b) ≡ false

abbrev AreDifferent : List Value → Type 0
AreDifferent = IsAscending differ

-- ---- integers that rise differ

below_differs : (m n : ℤ) → int_lt m n ≡ true → is_eq (int_cmp m n) ≡ false
below_differs m n h = grind (arith, ints, nat_tests)

above_differs : (v w : Value) → is_int v ≡ true → is_int w ≡ true → int_lt (id_in v) (id_in w) ≡ true → differ v w
above_differs v w int int_too above =
    ap (λ x. is_eq (value_cmp x w)) (int_is v int)
    ∙ (ap (λ x. is_eq (value_cmp (Int (id_in v)) x)) (int_is w int_too) ∙ (ap is_eq (value_cmp-Int (id_in v) (id_in w))
    ∙ below_differs (id_in v) (id_in w) above))

module _ (at : ℕ) where
  abbrev values : List Row → List Value
  values = map (λ r. column r at)

  abbrev AreInts : List Row → Type 0
  AreInts = AllByRecursion (λ r. is_int (column r at) ≡ true)

  all_differ : (v : Value) (rows : List Row) → is_int v ≡ true → AreInts rows
      → AllByRecursion (λ r. int_lt (id_in v) (id_in (column r at)) ≡ true) rows
      → AllByRecursion (differ v) (values rows)
  all_differ v [] int ints above = tt
  all_differ v (r ∷ rows) int ints above = (
    above_differs v (column r at) int ints.0 above.0,
    all_differ v rows int ints.1 above.1,
  )

  pub risen : (rows : List Row) → AreRising at rows → AreDifferent (values rows)
  risen [] up = tt
  risen (r ∷ rows) up = (all_differ (column r at) rows up.0.0 up.0.1 up.1.0, risen rows (up.0.1, up.1.1))

-- ---- values that differ, do so in any order

abbrev Keeps : List Value → List Value → Type 0
Keeps xs ys = IsPermutation xs ys × (AreDifferent xs → AreDifferent ys)

skips : (x : Value) (xs ys : List Value) → Keeps xs ys → Keeps (x ∷ xs) (x ∷ ys)
skips x xs ys h = (IsPermutation-cons x xs ys h.0, λ apart. (all-permutation (differ x) xs ys h.0 apart.0, h.1 apart.1))

turns : (x y : Value) (xs : List Value) → Keeps (x ∷ y ∷ xs) (y ∷ x ∷ xs)
turns x y xs = (swapped x y xs, λ apart. ((other_way x y apart.0.0, apart.1.0), (apart.0.1, apart.1.1)))

chains : (xs ys zs : List Value) → Keeps xs ys → Keeps ys zs → Keeps xs zs
chains xs ys zs p q = (IsPermutation-trans xs ys zs p.0 q.0, λ apart. q.1 (p.1 apart))

different_moved : (xs ys : List Value) → IsPermutation xs ys → AreDifferent xs → AreDifferent ys
different_moved xs ys h = (along_permutation Keeps (λ zs. (
  IsPermutation-refl zs,
  λ apart. apart,
)) skips turns chains xs ys h).1

-- ---- from the rows that were shown to those of the table

module _ (columns : Row → Row) (rows found : List Row) (same : IsPermutation (map columns rows) found) where
  back : IsPermutation found (map columns rows)
  back = IsPermutation-sym (map columns rows) found same

  -- what holds of every row as it is in the table holds of every row shown
  pub all_shown : (P : Row → Type 0) → AllByRecursion P (map columns rows) → AllByRecursion P found
  all_shown P = all-permutation P (map columns rows) found same

  pub shown_all : (P : Row → Type 0) → AllByRecursion P found → AllByRecursion (λ r. P (columns r)) rows
  shown_all P all = all_from_map P columns rows (all-permutation P found (map columns rows) back all)

  pub items_shown : {X : Type 0} (show : Row → X) → IsPermutation (map (λ r. show (columns r)) rows) (map show found)
  items_shown show = subst (λ xs. IsPermutation xs (map show found)) (map-map show columns rows)
      (IsPermutation-map show (map columns rows) found same)

  module _ (at : ℕ) (place : (r : Row) → column (columns r) at ≡ rowid r) where
    same_values : (rows : List Row) → map (λ r. column r at) (map columns rows) ≡ map rowid rows
    same_values [] = refl
    same_values (r ∷ rows) = rw (place r) (ap (λ vs. rowid r ∷ vs) (same_values rows))

    pub apart : AreRising at found → IsApart rows
    apart up =
        let moved = different_moved (map (λ r. column r at) found) (map (λ r. column r at) (map columns rows))
        (IsPermutation-map (λ r. column r at) found (map columns rows) back) (risen at found up) in
        ascending_from_map differ rowid rows (subst AreDifferent (same_values rows) moved)

    -- rows that show what a table's rows are, under rowids that rise, are the table's
    pub are_rows : (shows is_row : Row → Bool) → ((r : Row) → shows (columns r) ≡ true → is_int (rowid r) ≡ true
        → is_row r ≡ true)
        → AllByRecursion (λ r. shows r ≡ true) found → AreRising at found → AreRows is_row rows
    are_rows shows is_row fits whole up = (
      apart up,
      both rows (shown_all (λ r. shows r ≡ true) whole) (shown_all (λ r. is_int (column r at)
          ≡ true) up.0),
    )
      where
        both : (rows : List Row) → AllByRecursion (λ r. shows (columns r) ≡ true) rows
            → AllByRecursion (λ r. is_int (column (columns r) at) ≡ true) rows
            → AllByRecursion (λ r. is_row r ≡ true) rows
        both [] h k = tt
        both (r ∷ rows) h k = (fits r h.0 (sym (ap is_int (place r)) ∙ k.0), both rows h.1 k.1)

-- ---- a table of one row

one_apart : {X : Type 0} (f : Row → X) (m : X) (rows : List Row) → map f rows ≡ m ∷ [] → IsApart rows
one_apart f m [] one = tt
one_apart f m (r ∷ []) one = (tt, tt)
one_apart f m (r ∷ s ∷ rows) one = let long : length (map f (r ∷ s ∷ rows)) ≡ 1 = ap length one
    in absurd (omega (arith, long))

module _ {X : Type 0} (columns : Row → Row) (show : Row → X) (rows found : List Row)
    (same : IsPermutation (map columns rows) found) where
  pub one_item : (m : X) → map show found ≡ m ∷ [] → map (λ r. show (columns r)) rows ≡ m ∷ []
  one_item m one =
      one_permutation m (map (λ r. show (columns r)) rows)
      (IsPermutation-sym (map (λ r. show (columns r)) rows) (m ∷ [])
      (subst (λ xs. IsPermutation (map (λ r. show (columns r)) rows) xs) one
      (items_shown columns rows found same show)))

  pub one_row : (m : X) → map show found ≡ m ∷ [] → (shows is_row : Row → Bool) → ((r : Row) → shows (columns r) ≡ true
      → is_row r ≡ true)
      → AllByRecursion (λ r. shows r ≡ true) found → AreRows is_row rows
  one_row m one shows is_row fits whole = (
    one_apart (λ r. show (columns r)) m rows (one_item m one),
    each rows (shown_all columns rows found same (λ r. shows r ≡ true) whole),
  )
    where
      each : (rows : List Row) → AllByRecursion (λ r. shows (columns r) ≡ true) rows
          → AllByRecursion (λ r. is_row r ≡ true) rows
      each [] h = tt
      each (r ∷ rows) h = (fits r h.0, each rows h.1)
