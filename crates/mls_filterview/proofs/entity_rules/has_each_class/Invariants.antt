use Rattle.std.proofs.Common.{◌≡◌, drop}
use Rattle.std.specs.List.{list_all, list_any}
use Rattle.mls_lattice.specs.Policy.{labels_of}
use Rattle.mls_filterview.specs.Checking.{is_of_class}
use Rattle.mls_filterview.proofs.entity_rules.has_each_class.Given as goal

abbrev pub invariant-loop-element : goal.invariant-loop-element
invariant-loop-element l =
    (l.element-items ≡ l.tuple.elements)
    × (list_all (λ e. list_any (is_of_class (labels_of l.policy) l.tuple e.class) l.tuples)
    (drop l.element-index l.element-items) ≡ list_all
    (λ e. list_any (is_of_class (labels_of l.policy) l.tuple e.class) l.tuples) l.tuple.elements)
