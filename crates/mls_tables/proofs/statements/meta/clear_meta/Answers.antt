use Rattle.sqlite.specs.Held.{state}
use Rattle.mls_tables.proofs.Clears.{clears_meta}
use Rattle.mls_tables.proofs.Causes.{clear_meta_fails}
use Rattle.mls_tables.proofs.EndLemmas.{wrote}
use Rattle.mls_tables.proofs.statements.meta.clear_meta.Goals as goal

pub returns : goal.returns
returns g c =
    let old = state g.S.Store c.args.conn.now in
    let new = state g.S.Store c.execute.new.self in
    wrote old new _ _ c.execute.result (λ ready. clears_meta old new ready c.execute.result)
    (λ ready. clear_meta_fails old new c.execute.result ready) c.execute.ensures.runs c.execute.ensures.survives
