use Rattle.std.proofs.Common.{◌≡◌, take, map}
use Rattle.mls_lattice.specs.Policy.{labels_of}
use Rattle.mls_filterview.specs.View.{hide}
use Rattle.mls_filterview.proofs.filtering.filtered.Given as goal

abbrev pub invariant-loop-element : goal.invariant-loop-element
invariant-loop-element l =
    (l.element-items ≡ l.tuple.elements)
    × (l.elements.items ≡ map (hide (labels_of l.policy) l.label l.tuple.key_class)
    (take l.element-index l.element-items))
