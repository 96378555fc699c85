use Rattle.std.proofs.Common.{◌≡◌, drop}
use Rattle.mls_filterview.specs.Checking.{are_declared}
use Rattle.mls_filterview.proofs.recovering.are_declared.Given as goal

abbrev pub invariant-loop-element : goal.invariant-loop-element
invariant-loop-element l = are_declared l.count (drop l.element-index l.elements) ≡ are_declared l.count l.elements
