use Rattle.sqlite.specs.Held.{state}
use Rattle.mls_tables.proofs.Clears.{clears_entries}
use Rattle.mls_tables.proofs.Causes.{clear_entries_fails}
use Rattle.mls_tables.proofs.EndLemmas.{wrote}
use Rattle.mls_tables.proofs.statements.audit.clear_entries.Goals as goal

pub returns-clause-wrote : goal.returns-clause-wrote
returns-clause-wrote g c =
    let old = state g.S.Store c.args.conn.now in
    let new = state g.S.Store c.execute.new.self in
    wrote old new _ _ c.execute.result (λ ready. clears_entries old new ready c.execute.result)
    (λ ready. clear_entries_fails old new c.execute.result ready) c.execute.ensures.runs c.execute.ensures.survives

pub returns-clause-runs : goal.returns-clause-runs
returns-clause-runs g c = c.execute.ensures.runs
