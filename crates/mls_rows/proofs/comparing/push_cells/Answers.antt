use Rattle.std.proofs.Common.{sym, ◌∙◌, subst}
use Rattle.std.specs.List.{AllByRecursion}
use Rattle.mls_rows.specs.Holding.{IsSpelledCell}
use Rattle.mls_rows.proofs.FindingLemmas.{cells_spelled, item_is}
use Rattle.mls_rows.proofs.comparing.push_cells.Goals as goal

pub row_of_cell-requires : goal.row_of_cell-requires
row_of_cell-requires c =
    item_is IsSpelledCell c.deref-cell-items.result.now c.loop-cell.cell-index c.cell-item.result
    (subst (AllByRecursion IsSpelledCell) (sym (c.deref-cell-items.ensures.value ∙ c.in_ok-cells.ensures))
    (cells_spelled c.args.table.now.entries c.requires.spelled))
    c.loop-cell-test.true c.cell-item.is
