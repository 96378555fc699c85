use Rattle.std.proofs.Common.{◌≡◌, flat_map}
use Rattle.mls_lattice.specs.Policy.{labels_of}
use Rattle.mls_filterview.specs.Reach.{numbers, of_reach}
use Rattle.mls_filterview.proofs.reach.upward.Given as goal

abbrev pub invariant-loop-count : goal.invariant-loop-count
invariant-loop-count l = l.upward.items ≡ flat_map (of_reach (labels_of l.policy)) (numbers l.count)
