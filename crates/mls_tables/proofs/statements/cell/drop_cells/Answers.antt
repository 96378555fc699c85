use Rattle.sqlite.specs.Held.{state}
use Rattle.mls_tables.proofs.Drops.{drops_cells}
use Rattle.mls_tables.proofs.Causes.{drop_cells_fails}
use Rattle.mls_tables.proofs.EndLemmas.{wrote}
use Rattle.mls_tables.proofs.statements.cell.drop_cells.Goals as goal

pub returns-clause-wrote : goal.returns-clause-wrote
returns-clause-wrote g c =
    let old = state g.S.Store c.args.conn.now in
    let new = state g.S.Store c.execute.new.self in
    wrote old new _ _ c.execute.result (λ ready. drops_cells old new ready c.args.key.now c.execute.result)
    (λ ready. drop_cells_fails old new c.execute.result ready c.args.key.now) (rw (
      c.params-to_sql.ensures,
      c.params-to_sql-2.ensures,
      c.params-to_sql-3.ensures,
      c.params-to_sql-4.ensures,
      c.as_slice.ensures,
    ) at c.execute.ensures.runs) c.execute.ensures.survives

pub returns-clause-runs : goal.returns-clause-runs
returns-clause-runs g c = rw (
  c.params-to_sql.ensures,
  c.params-to_sql-2.ensures,
  c.params-to_sql-3.ensures,
  c.params-to_sql-4.ensures,
  c.as_slice.ensures,
) at c.execute.ensures.runs
