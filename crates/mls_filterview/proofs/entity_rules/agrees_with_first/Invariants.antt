use Rattle.std.proofs.Common.{◌≡◌, drop}
use Rattle.mls_lattice.specs.Policy.{labels_of}
use Rattle.mls_filterview.specs.Checking.{agrees_with_first}
use Rattle.mls_filterview.proofs.entity_rules.agrees_with_first.Given as goal

abbrev pub invariant-loop-other : goal.invariant-loop-other
invariant-loop-other l =
    agrees_with_first (labels_of l.policy) l.tuple l.class (drop l.other-index l.tuples) ≡ agrees_with_first
    (labels_of l.policy) l.tuple l.class l.tuples
