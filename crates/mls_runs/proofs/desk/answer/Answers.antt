use Rattle.mls_sessions.specs.Engine.{site, world_of}
use Rattle.mls_runs.proofs.AnsweringLemmas.{done_first, done_without}
use Rattle.mls_sessions.proofs.AccessLemmas.{permitted_start}
use Rattle.mls_runs.proofs.desk.answer.Goals as goal

pub returns-in-empty-clause-done : goal.returns-in-empty-clause-done
returns-in-empty-clause-done g c = λ clean.
    done_without (site c.args.engine.now) (world_of g.B.Base.seen c.args.engine.now) c.args.events.now c.in-empty.len_below (g.W.Write.contents c.args.out.now) _

pub returns-in-len1-up-clause-done : goal.returns-in-len1-up-clause-done
returns-in-len1-up-clause-done g c = λ clean.
    done_first (site c.args.engine.now) (world_of g.B.Base.seen c.args.engine.now) c.event-item.result c.event-item.result c.args.events.now c.in-len1-up.len_at_least c.event-item.is c.requires.one
    (g.W.Write.contents c.args.out.now) (g.W.Write.contents c.run_to.new.out)
    (world_of g.B.Base.seen c.run_to.new.engine) c.run_to.result (c.run_to.ensures.ok clean)
    (c.run_to.ensures.err clean) c.run_to.ensures.fault

pub returns-in-empty-clause-access : goal.returns-in-empty-clause-access
returns-in-empty-clause-access g c =
    permitted_start g.B.Base.seen (site c.args.engine.now) c.args.events.now c.args.engine.now.base
