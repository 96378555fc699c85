use Rattle.std.proofs.Common.{◌≡◌, drop}
use Rattle.mls_machine.specs.Denying.{exceed}
use Rattle.mls_sessions.specs.Sessions.{site_of_run}
use Rattle.mls_sessions.proofs.denying.exceed.Given as goal

abbrev pub invariant-loop-label : goal.invariant-loop-label
invariant-loop-label l = exceed (site_of_run l.site) l.limit (drop l.label-index l.labels)
    ≡ exceed (site_of_run l.site) l.limit l.labels
