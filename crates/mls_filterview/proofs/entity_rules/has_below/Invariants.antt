use Rattle.std.proofs.Common.{◌≡◌, drop}
use Rattle.mls_lattice.specs.Policy.{labels_of}
use Rattle.mls_filterview.specs.Checking.{has_below}
use Rattle.mls_filterview.proofs.entity_rules.has_below.Given as goal

abbrev pub invariant-loop-i : goal.invariant-loop-i
invariant-loop-i l =
    has_below (labels_of l.policy) l.class (drop l.i l.left) (drop l.i l.right)
    ≡ has_below (labels_of l.policy) l.class l.left l.right
