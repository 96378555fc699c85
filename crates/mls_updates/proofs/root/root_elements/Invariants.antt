use Rattle.std.proofs.Common.{◌≡◌, take}
use Rattle.mls_updates.specs.Writes.{root}
use Rattle.mls_updates.proofs.root.root_elements.Given as goal

abbrev pub invariant-loop-value : goal.invariant-loop-value
invariant-loop-value l = l.elements.items ≡ root l.class (take l.value-index l.values)
