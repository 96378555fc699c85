use Rattle.std.proofs.Common.{◌≡◌, drop}
use Rattle.mls_parser.specs.Fault.{least, least_from}
use Rattle.mls_parser.proofs.fault.least.Given as goal

abbrev pub invariant-loop-fault : goal.invariant-loop-fault
invariant-loop-fault l = least_from l.found (drop l.fault-index l.faults) ≡ least l.faults
