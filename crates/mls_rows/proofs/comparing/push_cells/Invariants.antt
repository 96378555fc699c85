use Rattle.std.proofs.Common.{◌≡◌, ◌++◌, map, take}
use Rattle.mls_rows.specs.Holding.{cell_row}
use Rattle.mls_rows.proofs.comparing.push_cells.Given as goal

abbrev pub invariant-loop-cell : goal.invariant-loop-cell
invariant-loop-cell l = l.rows.items ≡ l.initial.rows.items ++ map (cell_row l.relation)
    (take l.cell-index l.cell-items)
