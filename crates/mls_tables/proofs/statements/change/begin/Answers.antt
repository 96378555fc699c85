use Rattle.sqlite.specs.Held.{state}
use Rattle.mls_tables.proofs.CauseLemmas.{begin_fails}
use Rattle.mls_tables.proofs.EndLemmas.{ended, begun}
use Rattle.mls_tables.proofs.statements.change.begin.Goals as goal

pub returns-clause-begun : goal.returns-clause-begun
returns-clause-begun g c clean = begun (state g.S.Store c.args.conn.now)
    (state g.S.Store c.execute.new.self) c.execute.result (c.execute.ensures.runs clean)

pub returns-clause-err : goal.returns-clause-err
returns-clause-err g c clean = ended (state g.S.Store c.args.conn.now)
    (state g.S.Store c.execute.new.self) _ _ c.execute.result (c.execute.ensures.runs clean)

pub returns-clause-cause : goal.returns-clause-cause
returns-clause-cause g c clean before = begin_fails (state g.S.Store c.args.conn.now)
    (state g.S.Store c.execute.new.self) c.execute.result before (c.execute.ensures.runs clean)
