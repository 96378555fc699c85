use Rattle.std.proofs.Common.{◌≡◌, drop}
use Rattle.std.specs.List.{list_all}
use Rattle.mls_lattice.specs.Policy.{labels_of}
use Rattle.mls_filterview.specs.Checking.{agrees_with_first}
use Rattle.mls_filterview.proofs.entity_rules.agrees_with_firsts.Given as goal

abbrev pub invariant-loop-element : goal.invariant-loop-element
invariant-loop-element l =
    (l.element-items ≡ l.tuple.elements)
    × (list_all (λ e. agrees_with_first (labels_of l.policy) l.tuple e.class l.tuples)
    (drop l.element-index l.element-items) ≡ list_all
    (λ e. agrees_with_first (labels_of l.policy) l.tuple e.class l.tuples) l.tuple.elements)
