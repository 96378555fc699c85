use Rattle.std.proofs.Common.{◌≡◌, ◌++◌, flat_map}
use Rattle.mls_lattice.specs.Policy.{labels_of}
use Rattle.mls_filterview.specs.Reach.{of_class, upward}
use Rattle.mls_filterview.proofs.reach.in_order_of_reach.Given as goal

abbrev pub invariant-loop-class : goal.invariant-loop-class
invariant-loop-class l =
    l.tuples.items ++ flat_map (of_class l.rows) l.class-iterator.rest.items ≡ flat_map (of_class l.rows)
    (upward (labels_of l.policy))
