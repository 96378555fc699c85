use Rattle.std.proofs.Common.{◌≡◌, Some, map, take}
use Rattle.mls_machine.proofs.dumped.key_of.Given as goal

abbrev pub invariant-loop-value : goal.invariant-loop-value
invariant-loop-value l = l.values.items ≡ map Some (take l.value-index l.key)
