use Rattle.sqlite.specs.Held.{state}
use Rattle.mls_tables.proofs.Creates.{makes_meta}
use Rattle.mls_tables.proofs.EndLemmas.{making}
use Rattle.mls_tables.proofs.statements.creation.create_meta.Goals as goal

pub returns : goal.returns
returns g c =
    let old = state g.S.Store c.args.conn.now in
    let new = state g.S.Store c.execute.new.self in
    making old new _ c.execute.result (makes_meta old new c.execute.result) c.execute.ensures.runs c.execute.ensures.survives
