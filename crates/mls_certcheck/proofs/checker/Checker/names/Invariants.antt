use Rattle.std.proofs.Common.{take}
use Rattle.mls_lattice.specs.Lattice.{pair_of}
use Rattle.mls_certcheck.specs.Lent.{names_here}
use Rattle.mls_certcheck.specs.Walk.{claim_of, IsJoin}
use Rattle.mls_certcheck.proofs.checker.Checker.names.Given as goal

-- the join so far
abbrev pub invariant-loop-expr : goal.invariant-loop-expr
invariant-loop-expr l = IsJoin (claim_of l.self) (names_here l.here (take l.expr-index l.exprs)) (pair_of l.bound)
