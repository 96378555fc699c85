use Rattle.std.proofs.Common.{◌≡◌, drop}
use Rattle.std.specs.List.{list_all}
use Rattle.mls_lattice.specs.Policy.{labels_of}
use Rattle.mls_filterview.specs.Checking.{is_comparable}
use Rattle.mls_filterview.proofs.entity_rules.is_comparable_to_all.Given as goal

abbrev pub invariant-loop-element : goal.invariant-loop-element
invariant-loop-element l =
    (l.element-items ≡ l.tuple.elements)
    × (list_all (λ e. is_comparable (labels_of l.policy) l.class e.class) (drop l.element-index l.element-items)
    ≡ list_all (λ e. is_comparable (labels_of l.policy) l.class e.class) l.tuple.elements)
