use Rattle.sqlite.specs.Held.{state}
use Rattle.mls_tables.proofs.ChangeLemmas.{next_cell, on}
use Rattle.mls_tables.proofs.statements.cell.add_cells.Goals as goal

pub loop-cell-preserved : goal.loop-cell-preserved
loop-cell-preserved g c =
    on (state g.S.Store c.args.conn.now) (state g.S.Store c.loop-cell.conn)
    (state g.S.Store c.add_cell.new.conn) c.loop-cell.invariant c.in_ok-add_cell.ensures.clean
    (next_cell c.args.cells.now c.loop-cell.cell-index c.cell-item.result c.loop-cell-test.true c.cell-item.is) c.in_ok-add_cell.ensures.done
