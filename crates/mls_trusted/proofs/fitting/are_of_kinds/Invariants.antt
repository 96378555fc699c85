use Rattle.std.proofs.Common.{drop}
use Rattle.std.specs.List.{AllByRecursion}
use Rattle.mls_certcheck.specs.Kinds.{RowKinds}
use Rattle.mls_trusted.proofs.fitting.are_of_kinds.Given as goal

-- what is left decides
abbrev pub invariant-loop-row : goal.invariant-loop-row
invariant-loop-row l = AllByRecursion (RowKinds l.scheme) (drop l.row-index l.rows)
    → AllByRecursion (RowKinds l.scheme) l.rows
