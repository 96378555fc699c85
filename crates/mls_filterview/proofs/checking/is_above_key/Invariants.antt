use Rattle.std.proofs.Common.{◌≡◌, drop}
use Rattle.std.specs.List.{list_all}
use Rattle.mls_lattice.specs.Labels.{below}
use Rattle.mls_lattice.specs.Policy.{labels_of}
use Rattle.mls_filterview.proofs.checking.is_above_key.Given as goal

abbrev pub invariant-loop-element : goal.invariant-loop-element
invariant-loop-element l =
    (l.element-items ≡ l.tuple.elements)
    × (list_all (λ e. below (labels_of l.policy) l.tuple.key_class e.class) (drop l.element-index l.element-items)
    ≡ list_all (λ e. below (labels_of l.policy) l.tuple.key_class e.class) l.tuple.elements)
