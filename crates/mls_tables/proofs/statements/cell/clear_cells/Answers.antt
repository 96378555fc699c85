use Rattle.sqlite.specs.Held.{state}
use Rattle.mls_tables.proofs.Clears.{clears_cells}
use Rattle.mls_tables.proofs.Causes.{clear_cells_fails}
use Rattle.mls_tables.proofs.EndLemmas.{wrote}
use Rattle.mls_tables.proofs.statements.cell.clear_cells.Goals as goal

pub returns : goal.returns
returns g c =
    let old = state g.S.Store c.args.conn.now in
    let new = state g.S.Store c.execute.new.self in
    wrote old new _ _ c.execute.result (λ ready. clears_cells old new ready c.execute.result)
    (λ ready. clear_cells_fails old new c.execute.result ready) c.execute.ensures.runs c.execute.ensures.survives
