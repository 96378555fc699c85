use Rattle.std.proofs.Common.{◌-◌, length}
use Rattle.mls_lattice.specs.Policy.{labels_of}
use Rattle.mls_queries.proofs.TopLemmas.{AreTops}
use Rattle.mls_queries.proofs.highest.tops.Given as goal

abbrev pub invariant-loop-start : goal.invariant-loop-start
invariant-loop-start l = AreTops (labels_of l.policy) l.rows l.start l.places.items

abbrev pub decreases-loop-start : goal.decreases-loop-start
decreases-loop-start l = length l.rows - l.start
