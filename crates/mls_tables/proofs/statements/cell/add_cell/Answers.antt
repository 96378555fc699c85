use Rattle.sqlite.specs.Held.{state}
use Rattle.mls_tables.proofs.Adds.{adds_cell}
use Rattle.mls_tables.proofs.Causes.{add_cell_fails}
use Rattle.mls_tables.proofs.EndLemmas.{wrote}
use Rattle.mls_tables.proofs.statements.cell.add_cell.Goals as goal

pub returns : goal.returns
returns g c =
    let old = state g.S.Store c.args.conn.now in
    let new = state g.S.Store c.execute.new.self in
    wrote old new _ _ c.execute.result (λ ready. adds_cell old new ready c.args.cell.now c.execute.result)
    (λ ready. add_cell_fails old new c.execute.result ready c.args.cell.now) (rw (
      c.params-to_sql.ensures,
      c.params-to_sql-2.ensures,
      c.params-to_sql-3.ensures,
      c.params-to_sql-4.ensures,
      c.params-to_sql-5.ensures,
      c.params-to_sql-6.ensures,
      c.as_slice.ensures,
      c.as_slice-2.ensures,
    ) at c.execute.ensures.runs) c.execute.ensures.survives
