use Rattle.sqlite.specs.Held.{state}
use Rattle.mls_tables.proofs.Adds.{adds_entry}
use Rattle.mls_tables.proofs.Causes.{add_entry_fails}
use Rattle.mls_tables.proofs.EndLemmas.{wrote}
use Rattle.mls_tables.proofs.statements.audit.add_entry.Goals as goal

pub returns-clause-wrote : goal.returns-clause-wrote
returns-clause-wrote g c =
    let old = state g.S.Store c.args.conn.now in
    let new = state g.S.Store c.execute.new.self in
    wrote old new _ _ c.execute.result (λ ready. adds_entry old new ready c.args.entry.now c.execute.result)
    (λ ready. add_entry_fails old new c.execute.result ready c.args.entry.now) (rw (
      c.params-to_sql.ensures,
      c.params-to_sql-2.ensures,
      c.as_slice.ensures,
    ) at c.execute.ensures.runs) c.execute.ensures.survives

pub returns-clause-runs : goal.returns-clause-runs
returns-clause-runs g c = rw (
  c.params-to_sql.ensures,
  c.params-to_sql-2.ensures,
  c.as_slice.ensures,
) at c.execute.ensures.runs
