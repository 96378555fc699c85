use Rattle.std.proofs.Common.{◌≡◌, drop}
use Rattle.std.specs.List.{list_all}
use Rattle.mls_runs.specs.Shell.{is_own}
use Rattle.mls_runs.proofs.typed.are_own.Given as goal

abbrev pub invariant-loop-event : goal.invariant-loop-event
invariant-loop-event l = list_all (is_own l.session) (drop l.event-index l.events)
    ≡ list_all (is_own l.session) l.events
