use Rattle.std.proofs.Common.{sym, ap, ◌∙◌, subst}
use Rattle.mls_translang.specs.declared.run_fault.RunFault.{RunFault}
use Rattle.mls_sessions.specs.Engine.{site, world_of}
use Rattle.mls_sessions.specs.Run.{notice_of, last_of, IsHalted}
use Rattle.mls_sessions.proofs.AnswerLemmas.{halted_before, halted_unprinted, reply_known, not_store, only_store, noted}
use Rattle.mls_sessions.proofs.running.answer.Goals as goal

pub returns-in-Err-clause-continues : goal.returns-in-Err-clause-continues
returns-in-Err-clause-continues g c =
    let step = c.in-Err.ensures.answers in
    record {
      clean = step.turn.clean;
      about = step.turn.about;
      count = step.turn.count;
      kept = step.kept;
      store = λ h k. step.turn.fault.store (only_store c.in-Err.fault step.turn.fault.served (sym c.cause_of.ensures
          ∙ ap (λ (f : RunFault). f.cause) (sym c.fault_at.ensures) ∙ k));
    }

pub returns-in-Err-clause-stopped : goal.returns-in-Err-clause-stopped
returns-in-Err-clause-stopped g c = λ h.
    let before = g.W.Write.contents c.args.out.now in
    subst (λ (f : RunFault). IsHalted (site c.args.engine.now) c.args.audience.now
    (world_of g.B.Base.seen c.args.engine.now) c.args.event.now before before
    (world_of g.B.Base.seen c.step.new.self) f.cause f.done) (sym c.fault_at.ensures)
    (halted_before g.B.Base.seen c.args.engine.now c.step.new.self c.args.audience.now c.args.event.now before before c.cause_of.result (c.in-Err.ensures.answers.turn.fault.same h))

pub returns-in-Err-text_of-clause-continues : goal.returns-in-Err-text_of-clause-continues
returns-in-Err-text_of-clause-continues g c =
    let step = c.step.ensures.answers in
    record {
      clean = step.turn.clean;
      about = step.turn.about;
      count = step.turn.count;
      kept = noted g.B.Base.seen c.args.engine.now c.step.new.self c.next_notice-engine.result step.kept;
      store = λ h k.
          absurd (not_store c.in-Err-text_of.cause (c.in-Err-text_of.ensures.failed
          (reply_known g.B.Base.seen c.args.engine.now c.step.new.self c.args.event.now c.in-Ok.reply
          (c.in-Ok.ensures.answers.done h) step.kept.site
          c.requires.ready (step.turn.clean h) c.requires.fits)) (ap (λ (f : RunFault). f.cause)
          (sym c.fault_at-in-Err-text_of.ensures) ∙ k));
    }

pub returns-in-Err-text_of-clause-stopped : goal.returns-in-Err-text_of-clause-stopped
returns-in-Err-text_of-clause-stopped g c = λ h.
    let before = g.W.Write.contents c.args.out.now in
    subst (λ (f : RunFault). IsHalted (site c.args.engine.now) c.args.audience.now
    (world_of g.B.Base.seen c.args.engine.now) c.args.event.now before before
    (world_of g.B.Base.seen c.step.new.self) f.cause f.done) (sym c.fault_at-in-Err-text_of.ensures)
    (halted_unprinted g.B.Base.seen c.args.engine.now c.step.new.self c.args.audience.now c.args.event.now before before c.in-Ok.reply (c.in-Ok.ensures.answers.done h) c.in-Err-text_of.cause)

pub returns-in-Ok-write_whole-clause-continues : goal.returns-in-Ok-write_whole-clause-continues
returns-in-Ok-write_whole-clause-continues g c =
    let step = c.step.ensures.answers in
    record {
      clean = step.turn.clean;
      about = step.turn.about;
      count = step.turn.count;
      kept = noted g.B.Base.seen c.args.engine.now c.step.new.self c.next_notice-engine.result step.kept;
      store = λ h. tt;
    }

pub returns-in-Ok-write_whole-clause-noticed : goal.returns-in-Ok-write_whole-clause-noticed
returns-in-Ok-write_whole-clause-noticed g c = λ h. c.next_notice-engine.ensures
    ∙ ap (λ r. last_of (notice_of r) c.args.engine.now.notice) (c.in-Ok.ensures.answers.done h).reply
