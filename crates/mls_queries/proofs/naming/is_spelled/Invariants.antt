use Rattle.std.proofs.Common.{take}
use Rattle.std.specs.List.{AllByRecursion}
use Rattle.mls_scheme.specs.Spelling.{HasSpelling}
use Rattle.mls_queries.proofs.naming.is_spelled.Given as goal

abbrev pub invariant-loop-value : goal.invariant-loop-value
invariant-loop-value l = AllByRecursion HasSpelling (take l.value-index l.key)
