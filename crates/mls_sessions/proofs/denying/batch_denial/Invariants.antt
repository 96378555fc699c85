use Rattle.std.proofs.Common.{◌≡◌, drop}
use Rattle.mls_machine.specs.Denying.{first_denial, batch_denials}
use Rattle.mls_sessions.specs.Sessions.{site_of_run}
use Rattle.mls_sessions.proofs.denying.batch_denial.Given as goal

abbrev pub invariant-loop-one : goal.invariant-loop-one
invariant-loop-one l =
    first_denial (batch_denials (site_of_run l.site) l.level l.user (drop l.one-index l.batch))
    ≡ first_denial (batch_denials (site_of_run l.site) l.level l.user l.batch)
