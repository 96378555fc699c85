use Rattle.std.proofs.Common.{◌≡◌, drop}
use Rattle.std.specs.List.{list_any}
use Rattle.mls_lattice.specs.Policy.{labels_of}
use Rattle.mls_filterview.specs.Checking.{is_of_class}
use Rattle.mls_filterview.proofs.entity_rules.has_class.Given as goal

abbrev pub invariant-loop-other : goal.invariant-loop-other
invariant-loop-other l =
    list_any (is_of_class (labels_of l.policy) l.tuple l.class) (drop l.other-index l.tuples)
    ≡ list_any (is_of_class (labels_of l.policy) l.tuple l.class) l.tuples
