use Rattle.mls_lattice.specs.Lattice.{pair_of}
use Rattle.mls_certcheck.specs.Lines.{variables}
use Rattle.mls_certcheck.specs.Walk.{claim_of, IsJoin}
use Rattle.mls_certcheck.proofs.checker.Checker.variables.Given as goal

-- the join so far
abbrev pub invariant-loop-place : goal.invariant-loop-place
invariant-loop-place l = IsJoin (claim_of l.self) (variables l.number l.place) (pair_of l.bound)
