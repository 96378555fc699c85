use Rattle.std.proofs.Common.{take}
use Rattle.std.specs.List.{AllByRecursion}
use Rattle.mls_lattice.specs.Lattice.{Dominates, pair_of}
use Rattle.mls_certcheck.specs.Rules.{slot_label}
use Rattle.mls_labeller.specs.Rising.{rows_of, Rises}
use Rattle.mls_labeller.proofs.least.Rising.pour.Given as goal

-- the labels have risen by the slots so far
abbrev pub invariant-loop-slot : goal.invariant-loop-slot
invariant-loop-slot l = Rises l.self (λ c. AllByRecursion (λ t. Dominates (slot_label c t) (pair_of l.low))
    (take l.slot-index l.targets)) (rows_of l.initial.labels) (rows_of l.labels) l.rose
