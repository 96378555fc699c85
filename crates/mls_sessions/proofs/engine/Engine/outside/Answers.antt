use Rattle.std.proofs.lemmas.Result.{IfOk-weaker}
use Rattle.mls_sessions.specs.Engine.{site, world_of}
use Rattle.mls_sessions.proofs.EngineLemmas.{outside_is, answers_opened, numbers_known}
use Rattle.mls_sessions.proofs.engine.Engine.outside.Goals as goal

pub returns-clause-answers : goal.returns-clause-answers
returns-clause-answers g c =
    answers_opened g.B.Base.seen c.args.self.now c.requires.ready c.args.event.now c.requires.fits c.open.new.sessions
    (c.open.ensures.users c.requires.ready.users)
    c.open.result (outside_is (site c.args.self.now)
    (world_of g.B.Base.seen c.args.self.now) c.args.event.now c.requires.closed) c.open.ensures.done c.open.ensures.memory c.open.ensures.failed

pub returns-clause-known : goal.returns-clause-known
returns-clause-known g c = IfOk-weaker c.open.result _ _
    (numbers_known (site c.args.self.now).policy) c.open.ensures.known
