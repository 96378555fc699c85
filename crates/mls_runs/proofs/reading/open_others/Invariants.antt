use Rattle.std.proofs.Common.{◌≡◌, drop}
use Rattle.std.specs.List.{list_any}
use Rattle.mls_runs.specs.Desk.{opens_other}
use Rattle.mls_runs.proofs.reading.open_others.Given as goal

abbrev pub invariant-loop-event : goal.invariant-loop-event
invariant-loop-event l = list_any opens_other (drop l.event-index l.events) ≡ list_any opens_other l.events
