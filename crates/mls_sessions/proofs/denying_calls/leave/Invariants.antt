use Rattle.std.proofs.Common.{◌≡◌, drop, Some}
use Rattle.mls_certcheck.specs.Site.{site_labels}
use Rattle.mls_machine.specs.Denying.{lie_outside}
use Rattle.mls_sessions.specs.Sessions.{site_of_run}
use Rattle.mls_sessions.proofs.denying_calls.leave.Given as goal

abbrev pub invariant-loop-label : goal.invariant-loop-label
invariant-loop-label l = lie_outside (site_labels (site_of_run l.site)) (Some (l.low, l.high))
    (drop l.label-index l.labels) ≡ lie_outside (site_labels (site_of_run l.site)) (Some (l.low, l.high)) l.labels
