use Rattle.std.proofs.Common.{rules, ◌≡◌, Decides}
use Rattle.std.proofs.lemmas.Slice.Eq.{slice_eq-Decides}
use Rattle.mls_tables.specs.declared.rows.CellRow.{CellRow}
use Rattle.mls_rows.proofs.RowOrderLemmas.{cell_cmp, cell_total, cell_exact}
use Rattle.mls_rows.proofs.SortedLemmas.{same_sorted_rows, alike_sorted_rows}
use Rattle.mls_rows.proofs.comparing.have_same_cells.Goals as goal

compared : (c : goal.After-drop-left-2) → Decides c.eq-are_same.result (c.as_slice.result.now ≡ c.as_slice-2.result.now)
compared c = slice_eq-Decides (λ (a b : CellRow). search rules) _ _ _ c.eq-are_same.ensures

pub returns-clause-same : goal.returns-clause-same
returns-clause-same c t = same_sorted_rows _ _ _ _ _ _ _ c.in_ok-sort.ensures.permutation c.in_ok-sort-2.ensures.permutation c.as_slice.ensures.value c.as_slice-2.ensures.value (compared c) t

pub returns-clause-only : goal.returns-clause-only
returns-clause-only c alike =
    alike_sorted_rows _ _ _ _ _ _ _ c.in_ok-sort.ensures.permutation c.in_ok-sort-2.ensures.permutation c.as_slice.ensures.value c.as_slice-2.ensures.value (compared c)
    cell_cmp cell_total cell_exact c.in_ok-sort.ensures.sorted c.in_ok-sort-2.ensures.sorted (λ r. r.rel) alike
