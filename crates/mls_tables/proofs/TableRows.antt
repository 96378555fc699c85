-- The rows of a table as plain data, where rows are added, taken out and shown.
use Rattle.std.proofs.Common.{◌≡◌, inl, inr, List, [], ◌∷◌, map, filter, Bool, true, false, refl, sym, ap, subst, ◌∙◌, IsPermutation}
use Rattle.std.specs.List.{AllByRecursion}
use Rattle.std.proofs.lemmas.Bool.{cases_Bool}
use Rattle.std.proofs.lemmas.List.Sorted.{IsPermutation-map}
use Rattle.sqlite_value.specs.Order.{Row}
use Rattle.sqlite.specs.Tree.{rowid, put_row}
use Rattle.sqlite_trees.specs.View.{is_int}
use Rattle.sqlite_trees.proofs.TreeLemmas.{all-put_row}
use Rattle.sqlite_trees.proofs.ListLemmas.{ascending-filter, all-filter}
use Rattle.sqlite_rules.specs.Edit.{is_taken}
use Rattle.mls_tables.specs.Statements.{AreRows}
use Rattle.mls_tables.proofs.ApartRows.{put_fresh, put_apart}
use Rattle.mls_tables.proofs.RowLists.{AreKeyed}

module _ {X : Type 0} (is_row : Row → Bool) (read : Row → X) where
  abbrev All : List Row → Type 0
  All = AllByRecursion (λ r. is_row r ≡ true)

  -- a fresh row is one more item
  pub puts : (rows : List Row) (row : Row) → is_taken rows row ≡ false → is_row row ≡ true → AreRows is_row rows
      → AreRows is_row (put_row row rows) × IsPermutation (read row ∷ map read rows) (map read (put_row row rows))
  puts rows row fresh fits are = (
    (put_apart row rows fresh are.0, all-put_row (λ r. is_row r ≡ true) row rows fits are.1),
    IsPermutation-map read (row ∷ rows) (put_row row rows) (put_fresh row rows fresh),
  )

  pub keeps : (p : Row → Bool) (rows : List Row) → AreRows is_row rows → AreRows is_row (filter p rows)
  keeps p rows are = (ascending-filter _ p rows are.0, all-filter _ p rows are.1)

  -- a test on rows that is one on items
  pub filtered : (p : Row → Bool) (q : X → Bool) → ((r : Row) → is_row r ≡ true → p r ≡ q (read r)) → (rows : List Row)
      → All rows → map read (filter p rows) ≡ filter q (map read rows)
  filtered p q each [] all = refl
  filtered p q each (r ∷ rows) all = elim (cases_Bool (p r)) [
    | inl e ↦ rw (e, sym (each r all.0) ∙ e, filtered p q each rows all.1)
    | inr e ↦ rw (e, sym (each r all.0) ∙ e, filtered p q each rows all.1)
  ]

  pub shown : (show : Row → Row) (values : X → Row) → ((r : Row) → is_row r ≡ true → show r ≡ values (read r))
      → (rows : List Row) → All rows → map show rows ≡ map values (map read rows)
  shown show values each [] all = refl
  shown show values each (r ∷ rows) all = rw (each r all.0, shown show values each rows all.1)

  -- what a query shows of the rows that pass its test
  pub answers : (p : Row → Bool) (q : X → Bool) (show : Row → Row) (values : X → Row) → ((r : Row) → is_row r ≡ true
      → p r ≡ q (read r)) → ((r : Row) → is_row r ≡ true → show r ≡ values (read r))
      → (rows given : List Row) → All rows → IsPermutation (map show (filter p rows)) given
      → IsPermutation (map values (filter q (map read rows))) given
  answers p q show values tests shows rows given all same =
      subst (λ xs. IsPermutation xs given) (shown show values shows (filter p rows) (all-filter _ p rows all)
      ∙ ap (map values) (filtered p q tests rows all)) same

  pub keyed : ((r : Row) → is_row r ≡ true → is_int (rowid r) ≡ true) → (rows : List Row) → All rows → AreKeyed rows
  keyed each [] all = tt
  keyed each (r ∷ rows) all = (each r all.0, keyed each rows all.1)

undone : {X : Type 0} (values : X → Row) (show : Row → X) → ((x : X) → show (values x) ≡ x) → (xs : List X)
    → map show (map values xs) ≡ xs
undone values show back [] = refl
undone values show back (x ∷ xs) = rw (back x) (ap (λ l. x ∷ l) (undone values show back xs))

-- from the rows that a query showed to the items that they show
pub read_back : {X : Type 0} (values : X → Row) (show : Row → X) → ((x : X) → show (values x) ≡ x)
    → (xs : List X) (rows : List Row) → IsPermutation (map values xs) rows → IsPermutation xs (map show rows)
read_back {X} values show back xs rows same = subst (λ (l : List X). IsPermutation l (map show rows))
    (undone values show back xs) (IsPermutation-map show (map values xs) rows same)
