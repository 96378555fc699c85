-- proofs/recovering/is_closed/Invariants.antt
use Rattle.std.proofs.Common.{◌≡◌, drop}
use Rattle.std.specs.List.{list_all}
use Rattle.std.specs.BTreeMap.{get}
use Rattle.mls_lattice.specs.Policy.{labels_of}
use Rattle.mls_scheme.specs.Table.{place_cmp}
use Rattle.mls_filterview.specs.Stored.{with_class}
use Rattle.mls_filterview.specs.Checking.{agrees_with_found}
use Rattle.mls_filterview.proofs.recovering.is_closed.Given as goal

abbrev pub invariant-loop-element : goal.invariant-loop-element
invariant-loop-element l =
    (l.at.key ≡ l.place.key) × (l.at.key_class ≡ l.place.key_class)
    × (list_all (λ e. agrees_with_found (labels_of l.policy) e.class l.elements
    (get place_cmp l.rows (with_class l.place e.class))) (drop l.element-index l.elements)
    ≡ list_all (λ e. agrees_with_found (labels_of l.policy) e.class l.elements
    (get place_cmp l.rows (with_class l.place e.class))) l.elements)
