use Rattle.std.proofs.Common.{◌≡◌, drop}
use Rattle.mls_machine.specs.Denying.{stored_named}
use Rattle.mls_sessions.proofs.finding.stored_named.Given as goal

abbrev pub invariant-loop-one : goal.invariant-loop-one
invariant-loop-one l = stored_named (drop l.one-index l.stored) l.name ≡ stored_named l.stored l.name
