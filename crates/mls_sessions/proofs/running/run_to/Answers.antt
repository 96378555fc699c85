use Rattle.std.proofs.Common.{IfErr, rules}
use Rattle.mls_machine.proofs.KeepingLemmas.{keep_integrity}
use Rattle.mls_machine.proofs.RunLemmas.{first_accepted_alike}
use Rattle.mls_sessions.specs.Engine.{site, world_of}
use Rattle.mls_sessions.specs.Run.{IsStopped}
use Rattle.mls_sessions.proofs.FrameLemmas.{carried}
use Rattle.mls_sessions.proofs.AnswerLemmas.{access_more, running_start, running_more, running_stopped, stored_at}
use Rattle.mls_sessions.proofs.running.run_to.Goals as goal

pub loop-place-init : goal.loop-place-init
loop-place-init g c = running_start g.B.Base.seen c.args.audience c.args.events.now c.args.engine.now
    (g.W.Write.contents c.args.out.now) c.requires.ready

pub returns-in_err-answer-clause-err : goal.returns-in_err-answer-clause-err
returns-in_err-answer-clause-err g c = λ h.
    let first = c.args.engine.now in
    let now = world_of g.B.Base.seen c.answer.new.engine in
    carried (λ r. IfErr r (IsStopped (site first) c.args.audience (world_of g.B.Base.seen first) c.args.events.now
    (g.W.Write.contents c.args.out.now) (g.W.Write.contents c.answer.new.out) now))
    c.from_residual.result c.in_err-answer.field-0.0 c.from_residual.ensures.1
    (running_stopped g.B.Base.seen c.args.audience c.args.events.now first (g.W.Write.contents c.args.out.now)
    c.loop-place.place c.loop-place.engine (g.W.Write.contents c.loop-place.out) c.loop-place.invariant c.index-events-place.result c.loop-place-test.true (search rules)
    c.answer.new.engine (g.W.Write.contents c.answer.new.out) c.answer.ensures.continues.clean c.in_err-answer.field-0.0 c.in_err-answer.ensures.fault.0 c.in_err-answer.ensures.stopped h)

pub loop-place-preserved : goal.loop-place-preserved
loop-place-preserved g c = running_more g.B.Base.seen c.args.audience c.args.events.now c.args.engine.now
    (g.W.Write.contents c.args.out.now)
    c.loop-place.place c.loop-place.engine (g.W.Write.contents c.loop-place.out) c.loop-place.invariant c.index-events-place.result c.loop-place-test.true (search rules)
    c.answer.new.engine (g.W.Write.contents c.answer.new.out) c.answer.ensures.continues.clean c.answer.ensures.continues.count c.answer.ensures.access c.answer.ensures.continues.about c.answer.ensures.continues.kept (search rules) (search rules)

pub returns-in_err-answer-clause-integrity : goal.returns-in_err-answer-clause-integrity
returns-in_err-answer-clause-integrity g c = λ h. keep_integrity
    (site c.args.engine.now) c.args.engine.now.site.distinct c.requires.ready.read
    (world_of g.B.Base.seen c.args.engine.now) c.args.events.now
    (stored_at g.B.Base.seen c.args.engine.now c.requires.ready (c.loop-place.invariant.clean
    (c.answer.ensures.continues.clean h))) c.requires.fits

pub returns-clause-integrity : goal.returns-clause-integrity
returns-clause-integrity g c = λ h. keep_integrity
    (site c.args.engine.now) c.args.engine.now.site.distinct c.requires.ready.read
    (world_of g.B.Base.seen c.args.engine.now) c.args.events.now
    (stored_at g.B.Base.seen c.args.engine.now c.requires.ready (c.loop-place.invariant.clean h)) c.requires.fits

pub returns-clause-secret : goal.returns-clause-secret
returns-clause-secret g c = λ h. first_accepted_alike
    (site c.args.engine.now) c.args.engine.now.site.distinct c.requires.ready.read c.args.engine.now.site.certified
    (world_of g.B.Base.seen c.args.engine.now) c.args.events.now
    (stored_at g.B.Base.seen c.args.engine.now c.requires.ready (c.loop-place.invariant.clean h)) c.requires.fits

pub returns-in_err-answer-clause-secret : goal.returns-in_err-answer-clause-secret
returns-in_err-answer-clause-secret g c = λ h. first_accepted_alike
    (site c.args.engine.now) c.args.engine.now.site.distinct c.requires.ready.read c.args.engine.now.site.certified
    (world_of g.B.Base.seen c.args.engine.now) c.args.events.now
    (stored_at g.B.Base.seen c.args.engine.now c.requires.ready (c.loop-place.invariant.clean
    (c.answer.ensures.continues.clean h))) c.requires.fits

pub returns-in_err-answer-clause-access : goal.returns-in_err-answer-clause-access
returns-in_err-answer-clause-access g c = access_more g.B.Base.seen c.args.audience c.args.events.now c.args.engine.now
    (g.W.Write.contents c.args.out.now)
    c.loop-place.place c.loop-place.engine (g.W.Write.contents c.loop-place.out) c.loop-place.invariant c.index-events-place.result c.loop-place-test.true (search rules)
    c.answer.new.engine (g.W.Write.contents c.answer.new.out) c.answer.ensures.continues.clean c.answer.ensures.access
