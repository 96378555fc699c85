use Rattle.std.proofs.Common.{ap, ◌∙◌}
use Rattle.mls_certcheck.specs.Site.{site_labels}
use Rattle.mls_machine.specs.Output.{printed}
use Rattle.mls_machine.specs.Observation.{heard}
use Rattle.mls_sessions.specs.Sessions.{site_of_run}
use Rattle.mls_machine.proofs.PrintingSteps.{lines_under}
use Rattle.mls_sessions.proofs.running.text_of.Goals as goal

pub returns-in-Ok-clause-done : goal.returns-in-Ok-clause-done
returns-in-Ok-clause-done c =
    c.in-Ok.ensures
    ∙ ap (λ l. printed (heard (site_labels (site_of_run c.args.site.now)) c.args.audience.now.reader l))
    (lines_under c.args.audience.now.form (site_of_run c.args.site.now) c.args.event.now c.args.reply.now)
