use Rattle.std.proofs.Common.{◌≡◌, drop}
use Rattle.mls_lattice.specs.Lattice.{pair_of}
use Rattle.mls_lattice.specs.Policy.{labels_of}
use Rattle.mls_scheme.specs.Tuple.{join_of, tuple_class}
use Rattle.mls_scheme.proofs.tuple.tuple_class.Given as goal

abbrev pub invariant-loop-element : goal.invariant-loop-element
invariant-loop-element l = join_of (labels_of l.policy) (pair_of l.class) (drop l.element-index l.tuple.elements)
    ≡ tuple_class (labels_of l.policy) l.tuple
