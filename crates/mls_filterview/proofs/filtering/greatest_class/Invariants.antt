use Rattle.std.proofs.Common.{◌≡◌, ◌<◌, length, drop}
use Rattle.mls_lattice.specs.Policy.{labels_of}
use Rattle.mls_filterview.specs.Filtering.{greatest_from}
use Rattle.mls_filterview.proofs.filtering.greatest_class.Given as goal

abbrev pub invariant-loop-element : goal.invariant-loop-element
invariant-loop-element l =
    (l.class < length l.policy.labels)
    × (greatest_from (labels_of l.policy) l.class (drop l.element-index l.elements)
    ≡ greatest_from (labels_of l.policy) l.fn.key_class l.elements)
