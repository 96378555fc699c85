use Rattle.std.proofs.Common.{◌≡◌, ◌<◌, length, drop, not, nat_eq, filter}
use Rattle.mls_lattice.specs.Policy.{labels_of}
use Rattle.mls_filterview.specs.Filtering.{greatest_from}
use Rattle.mls_machine.specs.Dumping.{class_below}
use Rattle.mls_machine.proofs.dumped.class_below.Given as goal

abbrev pub invariant-loop-element : goal.invariant-loop-element
invariant-loop-element l =
    (l.greatest < length l.policy.labels)
    × (greatest_from (labels_of l.policy) l.greatest (filter (λ e. not (nat_eq e.class l.class))
    (drop l.element-index l.tuple.elements)) ≡ class_below (labels_of l.policy) l.class l.tuple)
