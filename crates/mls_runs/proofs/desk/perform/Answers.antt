use Rattle.std.proofs.Common.{subst, ap}
use Rattle.mls_sessions.specs.Engine.{site, world_of}
use Rattle.mls_runs.specs.Shell.{events_of, FateFits}
use Rattle.mls_runs.proofs.TalkLemmas.{none_is_lost}
use Rattle.mls_runs.proofs.AnsweringLemmas.{done_none, done_default}
use Rattle.mls_sessions.proofs.FrameLemmas.{goes_nowhere}
use Rattle.mls_sessions.proofs.AccessLemmas.{permitted_start}
use Rattle.mls_runs.proofs.desk.perform.Goals as goal

pub returns-in-Lost-clause-done : goal.returns-in-Lost-clause-done
returns-in-Lost-clause-done g c = λ clean.
    done_none (site c.args.engine.now) (world_of g.B.Base.seen c.args.engine.now) (events_of c.args.fate.now)
    (ap events_of c.in-Lost.is) (g.W.Write.contents c.args.out.now) _

pub returns-in-Lost-clause-continues : goal.returns-in-Lost-clause-continues
returns-in-Lost-clause-continues g c =
    let at = site c.args.engine.now in
    goes_nowhere g.B.Base.seen c.args.engine.now c.requires.ready _
    (λ is. subst (FateFits at.policy at.schemes) c.in-Lost.is c.requires.line.fits is)

pub returns-in_default-clause-done : goal.returns-in_default-clause-done
returns-in_default-clause-done g c = λ clean.
    done_default (site c.args.engine.now) (world_of g.B.Base.seen c.args.engine.now) c.args.fate.now c.in_default.not-Said (g.W.Write.contents c.args.out.now) _

pub returns-in_default-clause-found : goal.returns-in_default-clause-found
returns-in_default-clause-found g c = none_is_lost c.args.fate.now c.in_default.not-Lost

pub returns-in-Lost-clause-access : goal.returns-in-Lost-clause-access
returns-in-Lost-clause-access g c =
    permitted_start g.B.Base.seen (site c.args.engine.now) (events_of c.args.fate.now) c.args.engine.now.base

pub returns-in_default-clause-access : goal.returns-in_default-clause-access
returns-in_default-clause-access g c =
    permitted_start g.B.Base.seen (site c.args.engine.now) (events_of c.args.fate.now) c.args.engine.now.base
