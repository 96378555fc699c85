use Rattle.std.proofs.Common.{length, ap}
use Rattle.mls_scheme.specs.Scheme.{scheme_of}
use Rattle.mls_filterview.specs.Content.{State}
use Rattle.mls_updates.specs.declared.outcome.Outcome.{Outcome}
use Rattle.mls_queries.proofs.WrittenLemmas.{kept_written}
use Rattle.mls_translang.specs.declared.event.One.TheVariants as ones
use Rattle.mls_machine.specs.declared.reply.Answer.TheVariants as answers
use Rattle.mls_sessions.specs.Sessions.{site_of_run}
use Rattle.mls_sessions.proofs.BatchLemmas.{one_sound}
use Rattle.mls_sessions.proofs.KeptLemmas.{key_class_within, can_write}
use Rattle.mls_sessions.proofs.batch.write.Goals as goal

pub write-requires : goal.write-requires
write-requires g c =
    let fits = c.requires.may.fits in
    can_write g.B.Base.seen c.args.base.now c.args.site.now.policy.now c.args.site.now.schemes.now c.args.relation c.args.level c.requires.may.declared fits.0 c.args.site.now.under
    (λ h. (c.requires.found.sound h).content c.args.relation) c.args.write.now fits.1

pub returns-clause-done : goal.returns-clause-done
returns-clause-done g c = λ clean.
    let done = c.in_ok-outcome.ensures.done clean in
    (ap (λ (o : Outcome). answers.Became o) done.outcome, ap (λ (s : State). s.now) done.state)

pub returns-clause-sound : goal.returns-clause-sound
returns-clause-sound g c = λ clean.
    let done = c.in_ok-outcome.ensures in
    let left = done.done clean in
    one_sound (site_of_run c.args.site.now) c.args.site.now.distinct c.args.level
    (ones.Write c.args.relation c.args.write.now) c.requires.may
    (g.B.Base.seen c.args.base.now).state.now (g.B.Base.seen c.write.new.base).state.now
    (answers.Became c.in_ok-outcome.outcome)
    (c.requires.found.sound (done.change.call.clean clean)) (
      ap (λ (o : Outcome). answers.Became o) left.outcome,
      ap (λ (s : State). s.now) left.state,
    )

pub returns-clause-views : goal.returns-clause-views
returns-clause-views g c =
    let policy = c.args.site.now.policy.now in
    let relation = c.args.relation in
    let scheme = scheme_of c.args.site.now.schemes.now relation in
    let fits = c.requires.may.fits in
    let done = c.in_ok-outcome.ensures in
    kept_written policy g.B.Base.seen scheme (length scheme.others) relation c.args.level c.args.write.now c.args.base.now c.write.new.base c.in_ok-outcome.outcome c.args.views.now c.follow.new.self
    done.change.call.clean (λ k. ((c.requires.found.sound
    (done.change.call.clean k)).content relation).stored) done.done
    (key_class_within policy scheme c.args.level c.requires.may.declared c.args.write.now fits.1) c.requires.found.views c.follow.ensures
