-- What the rows that were shown of the table of meta say of the store's description.
use Rattle.std.proofs.Common.{◌≡◌, List, [], ◌∷◌, map, true, Ok, Err, Result, OnOk, IfOk, IfErr, IsPermutation, subst}
use Rattle.std.specs.List.{AllByRecursion}
use Rattle.sqlite_value.specs.Order.{Row}
use Rattle.sqlite.proofs.Callers.{one_permutation}
use Rattle.mls_tables.specs.declared.rows.MetaRow.{MetaRow}
use Rattle.mls_tables.specs.declared.adopting.AdoptFault.{AdoptFault}
use Rattle.mls_tables.specs.declared.adopting.AdoptFault.TheVariants.{BadRows}
use Rattle.mls_tables.specs.Rows.{meta_of, is_meta_row, meta_columns, shown_meta, shows_meta}
use Rattle.mls_tables.specs.Statements.{AreRows}
use Rattle.mls_tables.specs.Adopting.{ReadsMeta, Blames, IsVersion}
use Rattle.mls_tables.proofs.WholeRows.{all_shown, items_shown, one_item, one_row}

module _ (rows found : List Row) (same : IsPermutation (map meta_columns rows) found) where
  -- the rows that were shown are those of the table, where they are one
  to_table : (m : MetaRow) → map shown_meta found ≡ m ∷ [] → map meta_of rows ≡ m ∷ []
  to_table = one_item meta_columns shown_meta rows found same

  from_table : (m : MetaRow) → map meta_of rows ≡ m ∷ [] → map shown_meta found ≡ m ∷ []
  from_table m one = one_permutation m (map shown_meta found) (subst (λ xs. IsPermutation xs (map shown_meta found)) one
      (items_shown meta_columns rows found same shown_meta))

  -- where the one row that was shown is of version 1 or 2, it describes the store
  pub described : {P : Type 0} → P → (result : Result MetaRow AdoptFault)
      → OnOk result (AllByRecursion (λ r. shows_meta r ≡ true) found)
      → IfOk result (λ m. (map shown_meta found ≡ m ∷ []) × IsVersion m.version)
      → IfOk result (λ m. P × (AreRows is_meta_row rows × ((map meta_of rows ≡ m ∷ []) × IsVersion m.version)))
  described has (Err e) whole one = tt
  described has (Ok m) whole one = (
    has,
    (
      one_row meta_columns shown_meta rows found same m one.0 shows_meta is_meta_row
          (λ r h. h) whole,
      (to_table m one.0, one.1),
    ),
  )

  pub described_badly : (result : Result MetaRow AdoptFault) → IfErr result (λ e. e ≡ BadRows
      → AllByRecursion ReadsMeta found → ¬ ((m : MetaRow) × (map shown_meta found ≡ m ∷ []) × IsVersion m.version))
      → IfErr result (Blames (((m : MetaRow) × ((map meta_of rows ≡ m ∷ []) × IsVersion m.version))
      × AllByRecursion ReadsMeta (map meta_columns rows)))
  described_badly (Ok m) bad = tt
  described_badly (Err e) bad = λ is it. bad is (all_shown meta_columns rows found same ReadsMeta it.1) (
    it.0.0,
    from_table it.0.0 it.0.1.0,
    it.0.1.1,
  )
