use Rattle.std.proofs.Common.{take}
use Rattle.std.specs.List.{AllByRecursion}
use Rattle.mls_labeller.specs.Flows.{IsBounded}
use Rattle.mls_labeller.specs.Rising.{rows_of, Rises}
use Rattle.mls_labeller.proofs.least.Rising.round.Given as goal

-- the labels have risen by the lines so far
abbrev pub invariant-loop-line : goal.invariant-loop-line
invariant-loop-line l = Rises l.self (λ c. AllByRecursion (λ line. IsBounded c line.flow) (take l.line-index l.lines))
    (rows_of l.initial.labels) (rows_of l.labels) l.rose
