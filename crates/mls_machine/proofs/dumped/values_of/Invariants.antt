use Rattle.std.proofs.Common.{◌≡◌, map, take}
use Rattle.mls_machine.proofs.dumped.values_of.Given as goal

abbrev pub invariant-loop-element : goal.invariant-loop-element
invariant-loop-element l = l.values.items ≡ map (λ e. e.value) (take l.element-index l.elements)
