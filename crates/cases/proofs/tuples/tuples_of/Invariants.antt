use Rattle.std.proofs.Common.{length}
use Rattle.std.specs.List.{AllByRecursion}
use Rattle.mls_scheme.specs.Tuple.{HasClassesBelow}
use Rattle.cases.proofs.tuples.tuples_of.Given as goal

abbrev pub invariant-loop-line : goal.invariant-loop-line
invariant-loop-line l = AllByRecursion (HasClassesBelow (length l.policy.labels)) l.tuples.items
