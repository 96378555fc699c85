use Rattle.std.proofs.Common.{take}
use Rattle.sqlite.specs.Held.{state}
use Rattle.mls_tables.specs.Statements.{AddsCells}
use Rattle.mls_tables.proofs.ChangeLemmas.{IsSoFar}
use Rattle.mls_tables.proofs.statements.cell.add_cells.Given as goal

abbrev pub invariant-loop-cell : goal.invariant-loop-cell
invariant-loop-cell g l = IsSoFar (AddsCells (take l.cell-index l.cells)) (state g.S.Store l.fn.conn)
    (state g.S.Store l.conn)
