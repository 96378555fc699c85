use Rattle.std.proofs.Common.{ap, ◌∙◌, map}
use Rattle.std.proofs.lemmas.Result.{on_ok_weaker}
use Rattle.mls_audit.specs.declared.entry.Deed.TheVariants.{Called}
use Rattle.mls_machine.specs.Machine.{entry_of, release_entry}
use Rattle.mls_sessions.specs.Sessions.{site_of_run}
use Rattle.mls_sessions.specs.Calling.{with_entries}
use Rattle.mls_sessions.proofs.EnteringLemmas.{first_entered}
use Rattle.mls_filterview.proofs.AccessLemmas.{avoids_then}
use Rattle.mls_sessions.proofs.calling.enter_run.Goals as goal

pub returns-clause-entered : goal.returns-clause-entered
returns-clause-entered g c =
    let es = map (release_entry (site_of_run c.args.site.now) c.args.event.now c.args.user) c.args.released.now in
    let call = entry_of (site_of_run c.args.site.now) c.args.event.now c.args.event.now.level c.args.user
    (Called c.args.name.now) in
    record {
      done = λ clean. on_ok_weaker c.enter_releases.result (λ h. h ∙ ap (λ s. with_entries s es)
          (c.in_ok-enter_call.ensures.entered.done (c.enter_releases.ensures.step.call.clean clean)) ∙ first_entered
          (g.B.Base.seen c.args.base.now).state call es)
          (c.enter_releases.ensures.entered.done clean);
      spelled = on_ok_weaker c.enter_releases.result (λ h. (
        c.in_ok-enter_call.ensures.entered.spelled.0,
        h,
      )) c.enter_releases.ensures.entered.spelled;
    }

pub returns-clause-access : goal.returns-clause-access
returns-clause-access g c = avoids_then c.in_ok-enter_call.ensures.access c.enter_releases.ensures.access
