use Rattle.std.proofs.Common.{◌≡◌, drop}
use Rattle.mls_machine.specs.Known.{elements_known}
use Rattle.mls_machine.proofs.known.are_elements_known.Given as goal

abbrev pub invariant-loop-element : goal.invariant-loop-element
invariant-loop-element l = elements_known l.count (drop l.element-index l.elements) ≡ elements_known l.count l.elements
