use Rattle.sqlite.specs.Held.{state}
use Rattle.mls_tables.proofs.Drops.{sets_cell}
use Rattle.mls_tables.proofs.Causes.{set_cell_fails}
use Rattle.mls_tables.proofs.EndLemmas.{ended}
use Rattle.mls_tables.proofs.statements.cell.set_cell.Goals as goal

pub returns-clause-set : goal.returns-clause-set
returns-clause-set g c clean ready was one =
    sets_cell (state g.S.Store c.args.conn.now)
    (state g.S.Store c.execute.new.self) ready c.args.cell.now was c.execute.result one
    (rw (
      c.params-to_sql.ensures,
      c.params-to_sql-2.ensures,
      c.params-to_sql-3.ensures,
      c.params-to_sql-4.ensures,
      c.params-to_sql-5.ensures,
      c.params-to_sql-6.ensures,
      c.as_slice.ensures,
      c.as_slice-2.ensures,
    ) at
    (c.execute.ensures.runs clean))

pub returns-clause-err : goal.returns-clause-err
returns-clause-err g c clean = ended (state g.S.Store c.args.conn.now)
    (state g.S.Store c.execute.new.self) _ _ c.execute.result (c.execute.ensures.runs clean)

pub returns-clause-cause : goal.returns-clause-cause
returns-clause-cause g c clean ready =
    set_cell_fails (state g.S.Store c.args.conn.now)
    (state g.S.Store c.execute.new.self) c.execute.result ready c.args.cell.now
    (rw (
      c.params-to_sql.ensures,
      c.params-to_sql-2.ensures,
      c.params-to_sql-3.ensures,
      c.params-to_sql-4.ensures,
      c.params-to_sql-5.ensures,
      c.params-to_sql-6.ensures,
      c.as_slice.ensures,
      c.as_slice-2.ensures,
    ) at
    (c.execute.ensures.runs clean))

pub returns-clause-runs : goal.returns-clause-runs
returns-clause-runs g c = rw (
  c.params-to_sql.ensures,
  c.params-to_sql-2.ensures,
  c.params-to_sql-3.ensures,
  c.params-to_sql-4.ensures,
  c.params-to_sql-5.ensures,
  c.params-to_sql-6.ensures,
  c.as_slice.ensures,
  c.as_slice-2.ensures,
) at c.execute.ensures.runs
