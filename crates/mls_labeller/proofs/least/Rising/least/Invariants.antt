use Rattle.mls_labeller.specs.Rising.{rows_of, room, Stands}
use Rattle.mls_labeller.proofs.least.Rising.least.Given as goal

abbrev pub invariant-loop-labels : goal.invariant-loop-labels
invariant-loop-labels l = Stands l.self (rows_of l.labels)

abbrev pub decreases-loop-labels : goal.decreases-loop-labels
decreases-loop-labels l = room (rows_of l.labels)
