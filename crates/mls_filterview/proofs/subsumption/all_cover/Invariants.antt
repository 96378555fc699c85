use Rattle.std.proofs.Common.{◌≡◌, drop}
use Rattle.mls_filterview.specs.Subsumption.{all_cover}
use Rattle.mls_filterview.proofs.subsumption.all_cover.Given as goal

abbrev pub invariant-loop-i : goal.invariant-loop-i
invariant-loop-i l = all_cover (drop l.i l.left) (drop l.i l.right) ≡ all_cover l.left l.right
