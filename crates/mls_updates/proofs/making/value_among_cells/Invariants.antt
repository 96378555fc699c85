use Rattle.std.proofs.Common.{◌≡◌, drop}
use Rattle.mls_filterview.specs.Assembly.{value_in}
use Rattle.mls_updates.proofs.making.value_among_cells.Given as goal

abbrev pub invariant-loop-cell : goal.invariant-loop-cell
invariant-loop-cell l = value_in l.attr (drop l.cell-index l.cells) ≡ value_in l.attr l.cells
