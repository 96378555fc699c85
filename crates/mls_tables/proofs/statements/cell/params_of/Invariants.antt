use Rattle.std.proofs.Common.{◌≡◌, take}
use Rattle.sqlite.specs.Values.{bound}
use Rattle.mls_tables.specs.Rows.{own_values}
use Rattle.mls_tables.proofs.statements.cell.params_of.Given as goal

abbrev pub invariant-loop-cell : goal.invariant-loop-cell
invariant-loop-cell l = bound l.params.items ≡ own_values l.fn.node (take l.cell-index l.cells)
