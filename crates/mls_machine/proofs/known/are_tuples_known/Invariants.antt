use Rattle.std.proofs.Common.{◌≡◌, drop}
use Rattle.mls_machine.specs.Known.{tuples_known}
use Rattle.mls_machine.proofs.known.are_tuples_known.Given as goal

abbrev pub invariant-loop-tuple : goal.invariant-loop-tuple
invariant-loop-tuple l = tuples_known l.count (drop l.tuple-index l.tuples) ≡ tuples_known l.count l.tuples
