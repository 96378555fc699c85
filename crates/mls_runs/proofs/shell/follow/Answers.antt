use Rattle.std.proofs.Common.{subst}
use Rattle.std.proofs.lemmas.Result.{on_ok_weaker}
use Rattle.mls_sessions.specs.Engine.{site, world_of}
use Rattle.mls_runs.specs.Shell.{audience_at, events_of, FateFits}
use Rattle.mls_runs.proofs.TalkLemmas.{followed_lost, followed_none, none_is_lost, noticed_said, noticed_none}
use Rattle.mls_sessions.proofs.FrameLemmas.{goes_nowhere}
use Rattle.mls_sessions.proofs.AccessLemmas.{permitted_start}
use Rattle.mls_runs.proofs.shell.follow.Goals as goal

pub returns-in-Lost-clause-followed : goal.returns-in-Lost-clause-followed
returns-in-Lost-clause-followed g c = λ clean.
    followed_lost (site c.args.engine.now) (audience_at c.args.session.now)
    (world_of g.B.Base.seen c.args.engine.now) c.args.fate.now
    (g.W.Write.contents c.args.out.now) c.args.line c.in-Lost.cause c.in-Lost.is

pub returns-in-Lost-clause-continues : goal.returns-in-Lost-clause-continues
returns-in-Lost-clause-continues g c =
    let at = site c.args.engine.now in
    goes_nowhere g.B.Base.seen c.args.engine.now c.requires.ready _
    (λ is. subst (FateFits at.policy at.schemes) c.in-Lost.is c.requires.fits is)

pub returns-in_default-clause-followed : goal.returns-in_default-clause-followed
returns-in_default-clause-followed g c = λ clean.
    followed_none (site c.args.engine.now) (audience_at c.args.session.now)
    (world_of g.B.Base.seen c.args.engine.now) c.args.fate.now
    (g.W.Write.contents c.args.out.now) c.args.line c.in_default.not-Said

pub returns-in_default-clause-found : goal.returns-in_default-clause-found
returns-in_default-clause-found g c = none_is_lost c.args.fate.now c.in_default.not-Lost

pub returns-in-Said-clause-noticed : goal.returns-in-Said-clause-noticed
returns-in-Said-clause-noticed g c = λ clean.
    on_ok_weaker c.answer.result (noticed_said (site c.args.engine.now)
    (world_of g.B.Base.seen c.args.engine.now) c.args.fate.now c.in-Said.events _ c.answer.new.engine.notice c.in-Said.is c.deref.ensures) (c.answer.ensures.noticed clean)

pub returns-in_default-clause-noticed : goal.returns-in_default-clause-noticed
returns-in_default-clause-noticed g c = λ clean.
    noticed_none (site c.args.engine.now) (world_of g.B.Base.seen c.args.engine.now) c.args.fate.now c.args.engine.now.notice c.in_default.not-Said

pub returns-in-Lost-clause-access : goal.returns-in-Lost-clause-access
returns-in-Lost-clause-access g c =
    permitted_start g.B.Base.seen (site c.args.engine.now) (events_of c.args.fate.now) c.args.engine.now.base

pub returns-in_default-clause-access : goal.returns-in_default-clause-access
returns-in_default-clause-access g c =
    permitted_start g.B.Base.seen (site c.args.engine.now) (events_of c.args.fate.now) c.args.engine.now.base
