use Rattle.std.proofs.Common.{◌≡◌, drop}
use Rattle.std.specs.List.{list_all}
use Rattle.mls_lattice.specs.Policy.{labels_of}
use Rattle.mls_filterview.specs.Checking.{all_classes, is_comparable}
use Rattle.mls_filterview.proofs.entity_rules.is_chain.Given as goal

abbrev pub invariant-loop-element : goal.invariant-loop-element
invariant-loop-element l =
    (l.element-items ≡ l.tuple.elements)
    × (list_all (λ e. all_classes (is_comparable (labels_of l.policy) e.class) l.tuple)
    (drop l.element-index l.element-items) ≡ list_all
    (λ e. all_classes (is_comparable (labels_of l.policy) e.class) l.tuple) l.tuple.elements)
