use Rattle.sqlite.specs.Held.{state}
use Rattle.mls_tables.proofs.Adds.{adds_node}
use Rattle.mls_tables.proofs.Causes.{add_node_fails}
use Rattle.mls_tables.proofs.EndLemmas.{wrote}
use Rattle.mls_tables.proofs.statements.node.add_node.Goals as goal

pub returns-clause-wrote : goal.returns-clause-wrote
returns-clause-wrote g c =
    let old = state g.S.Store c.args.conn.now in
    let new = state g.S.Store c.execute.new.self in
    wrote old new _ _ c.execute.result (λ ready. adds_node old new ready c.args.node.now c.execute.result)
    (λ ready. add_node_fails old new c.execute.result ready c.args.node.now) (rw (
      c.params-to_sql.ensures,
      c.params-to_sql-2.ensures,
      c.params-to_sql-3.ensures,
      c.params-to_sql-4.ensures,
      c.params-to_sql-5.ensures,
      c.as_slice.ensures,
      c.as_slice-2.ensures,
    ) at c.execute.ensures.runs) c.execute.ensures.survives

pub returns-clause-runs : goal.returns-clause-runs
returns-clause-runs g c = rw (
  c.params-to_sql.ensures,
  c.params-to_sql-2.ensures,
  c.params-to_sql-3.ensures,
  c.params-to_sql-4.ensures,
  c.params-to_sql-5.ensures,
  c.as_slice.ensures,
  c.as_slice-2.ensures,
) at c.execute.ensures.runs
