use Rattle.std.proofs.Common.{◌≡◌, take}
use Rattle.mls_lattice.specs.Policy.{labels_of}
use Rattle.mls_filterview.specs.Filtering.{seen}
use Rattle.mls_filterview.proofs.filtering.seen.Given as goal

abbrev pub invariant-loop-tuple : goal.invariant-loop-tuple
invariant-loop-tuple l = l.seen.items ≡ seen (labels_of l.policy) l.label (take l.tuple-index l.tuples)
