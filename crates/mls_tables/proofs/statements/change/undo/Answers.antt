use Rattle.sqlite.specs.Held.{state}
use Rattle.mls_tables.proofs.CauseLemmas.{undo_fails}
use Rattle.mls_tables.proofs.EndLemmas.{undone}
use Rattle.mls_tables.proofs.statements.change.undo.Goals as goal

pub returns-clause-undone : goal.returns-clause-undone
returns-clause-undone g c clean = undone (state g.S.Store c.args.conn.now)
    (state g.S.Store c.execute.new.self) c.execute.result c.requires (c.execute.ensures.runs clean)

pub returns-clause-cause : goal.returns-clause-cause
returns-clause-cause g c clean = undo_fails (state g.S.Store c.args.conn.now)
    (state g.S.Store c.execute.new.self) c.execute.result c.requires (c.execute.ensures.runs clean)
