-- What an edit makes of the rows of its table, whichever table it is.
use Rattle.std.proofs.Common.{◌≡◌, ℤ, List, [], ◌∷◌, ◌++◌, map, filter, not, ◌&&◌, Bool, true, false, refl, sym, ap, subst, subst₂, ◌∙◌, IsPermutation}
use Rattle.std.proofs.lemmas.Bool.{not-true, and_parts}
use Rattle.std.proofs.lemmas.List.Sorted.{IsPermutation-map, IsPermutation-refl, IsPermutation-sym, IsPermutation-trans, IsPermutation-middle, IsPermutation-append_right}
use Rattle.sqlite_value.specs.Order.{Row, column}
use Rattle.sqlite.specs.declared.types.Value.TheVariants.{Int}
use Rattle.sqlite.specs.Tree.{Trees, rowid, put_row}
use Rattle.sqlite.specs.Table.{Table}
use Rattle.sqlite.specs.Schema.{Schema}
use Rattle.sqlite.specs.Rowids.TheVariants.{Chosen, Given}
use Rattle.sqlite_schema.specs.declared.schema.Keys.TheVariants.{Enforced}
use Rattle.sqlite_trees.specs.View.{is_int}
use Rattle.sqlite_rules.specs.Cast.{cast_row}
use Rattle.sqlite_rules.specs.Edit.{Applies, edit_of, is_taken, are_fresh, put_all, numbered, without_all, with_rowid, id_in}
use Rattle.sqlite_rules.specs.Calls.{ids_of}
use Rattle.mls_tables.specs.Statements.{IsApart, AreRows}
use Rattle.mls_tables.proofs.RowLists.{AreKeyed, removed}
use Rattle.mls_tables.proofs.TableRows.{puts, keeps, filtered, keyed}
use Rattle.mls_tables.proofs.ValueTests.{and_true}

fresh_one : (rows : List Row) (row : Row) → (not (is_taken rows row) && true) ≡ true → is_taken rows row ≡ false
fresh_one rows row h = not-true _ (sym (and_true _) ∙ h)

rowids_of : (rows : List Row) → ids_of (map (λ r. column r 0 ∷ []) rows) ≡ ids_of rows
rowids_of [] = refl
rowids_of (r ∷ rows) = ap (λ l. id_in (column r 0) ∷ l) (rowids_of rows)

-- taking out the rowids that were shown leaves the other rows
left_others : (p : Row → Bool) (rows shown : List Row) → IsApart rows → AreKeyed rows
    → IsPermutation (map (λ r. column r 0 ∷ []) (filter p rows)) shown
    → without_all rows (ids_of shown) ≡ filter (λ r. not (p r)) rows
left_others p rows shown apart keyed same =
    removed p rows (ids_of shown) apart keyed
    (subst (λ some. IsPermutation some (ids_of shown)) (rowids_of (filter p rows))
    (IsPermutation-map (λ r. id_in (rowid r)) (map (λ r. column r 0 ∷ []) (filter p rows)) shown same))

module _ {X : Type 0} (is_row : Row → Bool) (read : Row → X) (schema : Schema) (trees next : Trees) (table : Table)
    (are : AreRows is_row (trees table.tree)) where
  -- the rows of the table after a fresh one is put among some of them
  put_in : (row : Row) (left : List Row) → next table.tree ≡ put_row row left → (not (is_taken left row) && true) ≡ true
      → is_row row ≡ true → AreRows is_row left
      → AreRows is_row (next table.tree) × IsPermutation (read row ∷ map read left) (map read (next table.tree))
  put_in row left is fresh fits others = rw is (puts is_row read left row (fresh_one left row fresh) fits others)

  -- one row is added, whose columns are of their kinds
  pub added : (source : Row) → cast_row table source ≡ source → is_row (with_rowid Chosen (trees table.tree) source)
      ≡ true → Applies schema Enforced trees (edit_of trees table [] Chosen 0 (source ∷ [])) next
      → AreRows is_row (next table.tree) × IsPermutation (read (with_rowid Chosen (trees table.tree) source)
      ∷ map read (trees table.tree)) (map read (next table.tree))
  added source same fits step =
      put_in (with_rowid Chosen (trees table.tree) source) (trees table.tree)
      (subst (λ r. next table.tree ≡ put_row (with_rowid Chosen (trees table.tree) r)
      (trees table.tree)) same step.rows)
      (subst (λ r. (not (is_taken (trees table.tree) (with_rowid Chosen (trees table.tree) r)) && true)
      ≡ true) same step.fresh)
      fits are

  -- rows are added, whose columns are of their kinds, and which are read back whatever rowids they get
  module _ (row : X → Row) (casts : (x : X) → cast_row table (row x) ≡ row x) (fits : (rows : List Row) (x : X)
      → is_row (with_rowid Chosen rows (row x)) ≡ true)
      (reads : (rows : List Row) (x : X) → read (with_rowid Chosen rows (row x)) ≡ x) where
    cast_each : (xs : List X) → map (cast_row table) (map row xs) ≡ map row xs
    cast_each [] = refl
    cast_each (x ∷ xs) = rw (casts x) (ap (λ rs. row x ∷ rs) (cast_each xs))

    put_each : (rows : List Row) (xs : List X) → AreRows is_row rows
        → are_fresh rows (numbered Chosen rows (map row xs)) ≡ true
        → AreRows is_row (put_all rows (numbered Chosen rows (map row xs))) × IsPermutation (xs ++ map read rows)
        (map read (put_all rows (numbered Chosen rows (map row xs))))
    put_each rows [] have fresh = (have, IsPermutation-refl (map read rows))
    put_each rows (x ∷ xs) have fresh =
        let new = with_rowid Chosen rows (row x) in
        let now = put_row new rows in
        let parts = and_parts _ _ fresh in
        let one = puts is_row read rows new (not-true _ parts.0) (fits rows x) have in
        let rest = put_each now xs one.0 parts.1 in
        let more : IsPermutation (x ∷ map read rows) (map read now) = rw (reads rows x) at one.1 in (
          rest.0,
          IsPermutation-trans (x ∷ (xs ++ map read rows)) (xs ++ x ∷ map read rows)
              (map read (put_all now (numbered Chosen now (map row xs)))) (IsPermutation-sym (xs ++ x ∷ map read rows)
              (x ∷ (xs ++ map read rows)) (IsPermutation-middle xs x (map read rows)))
              (IsPermutation-trans (xs ++ x ∷ map read rows) (xs ++ map read now)
              (map read (put_all now (numbered Chosen now (map row xs)))) (IsPermutation-append_right xs
              (x ∷ map read rows) (map read now) more) rest.1),
        )

    pub added_each : (xs : List X) → Applies schema Enforced trees (edit_of trees table [] Chosen 0 (map row xs)) next
        → AreRows is_row (next table.tree) × IsPermutation (xs ++ map read (trees table.tree))
        (map read (next table.tree))
    added_each xs step =
        let rows = trees table.tree in
        let all = put_each rows xs are (subst (λ rs. are_fresh rows (numbered Chosen rows rs) ≡ true)
        (cast_each xs) step.fresh) in
        subst (λ after. AreRows is_row after × IsPermutation (xs ++ map read rows) (map read after))
        (sym (step.rows ∙ ap (λ rs. put_all rows (numbered Chosen rows rs)) (cast_each xs))) all

  module _ (ids : (r : Row) → is_row r ≡ true → is_int (rowid r) ≡ true) (p : Row → Bool) (test : X → Bool)
      (tests : (r : Row) → is_row r ≡ true → p r ≡ test (read r)) where
    -- the rows that do not pass a test, as items
    others_read : map read (filter (λ r. not (p r)) (trees table.tree)) ≡ filter (λ x. not (test x))
        (map read (trees table.tree))
    others_read = filtered is_row read (λ r. not (p r)) (λ x. not (test x)) (λ r h. ap not (tests r h))
        (trees table.tree) are.1

    -- the rows that pass a test are dropped
    pub dropped : (shown : List Row) → IsPermutation (map (λ r. column r 0 ∷ []) (filter p (trees table.tree))) shown
        → Applies schema Enforced trees (edit_of trees table (ids_of shown) Given 0 []) next
        → AreRows is_row (next table.tree) × (map read (next table.tree) ≡ filter (λ x. not (test x))
        (map read (trees table.tree)))
    dropped shown same step =
        rw (step.rows ∙ left_others p (trees table.tree) shown are.0
        (keyed is_row read ids (trees table.tree) are.1) same) (
          keeps is_row read (λ r. not (p r))
              (trees table.tree) are,
          others_read,
        )

    -- the one row that passes a test gives its place to a row with the same rowid, whose columns are of their kinds
    pub replaced : (r : Row) (id : ℤ) (columns : Row) → filter p (trees table.tree) ≡ r ∷ [] → id_in (rowid r) ≡ id
        → cast_row table (Int id ∷ columns) ≡ Int id ∷ columns → is_row (Int id ∷ columns) ≡ true
        → Applies schema Enforced trees (edit_of trees table (id ∷ []) Given 1 ((Int id ∷ Int id ∷ columns) ∷ [])) next
        → AreRows is_row (next table.tree) × IsPermutation (read (Int id ∷ columns) ∷ filter (λ x. not (test x))
        (map read (trees table.tree))) (map read (next table.tree))
    replaced r id columns found same casts fits step =
        let left : without_all (trees table.tree) (id ∷ []) ≡ filter (λ r. not (p r)) (trees table.tree) =
        removed p (trees table.tree) (id ∷ []) are.0 (keyed is_row read ids (trees table.tree) are.1)
        (rw (found, same) (IsPermutation-refl (id ∷ []))) in
        rw (← others_read) (put_in (Int id ∷ columns) (filter (λ r. not (p r)) (trees table.tree))
        (rw (casts, left) at step.rows) (subst₂ (λ (rows : List Row) (r : Row). (not (is_taken rows r) && true)
        ≡ true) left casts step.fresh) fits (keeps is_row read (λ r. not (p r)) (trees table.tree) are))
