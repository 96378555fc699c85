use Rattle.std.proofs.Common.{◌≡◌, ◌++◌, length, map}
use Rattle.std.specs.List.{AllByRecursion}
use Rattle.mls_lattice.specs.Policy.{labels_of}
use Rattle.mls_scheme.specs.Tuple.{HasClassesBelow}
use Rattle.mls_filterview.specs.Filtering.{row_of}
use Rattle.mls_filterview.proofs.filtering.rows_of.Given as goal

abbrev pub invariant-loop-tuple : goal.invariant-loop-tuple
invariant-loop-tuple l =
    AllByRecursion (HasClassesBelow (length l.policy.labels)) l.tuple-iterator.rest.items
    × (l.rows.items ++ map (row_of (labels_of l.policy)) l.tuple-iterator.rest.items
    ≡ map (row_of (labels_of l.policy)) l.fn.tuples.items)
