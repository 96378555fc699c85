use Rattle.std.proofs.Common.{◌≡◌, map, take}
use Rattle.mls_rows.specs.Holding.{own_cell}
use Rattle.mls_rows.proofs.writing.own_cells.Given as goal

abbrev pub invariant-loop-cell : goal.invariant-loop-cell
invariant-loop-cell l = l.own.items ≡ map own_cell (take l.cell-index l.cells)
