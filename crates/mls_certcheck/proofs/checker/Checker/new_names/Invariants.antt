use Rattle.std.proofs.Common.{take, map}
use Rattle.mls_lattice.specs.Lattice.{pair_of}
use Rattle.mls_certcheck.specs.Lent.{names_here}
use Rattle.mls_certcheck.specs.Walk.{claim_of, IsJoin}
use Rattle.mls_certcheck.proofs.checker.Checker.new_names.Given as goal

-- the join so far
abbrev pub invariant-loop-set : goal.invariant-loop-set
invariant-loop-set l = IsJoin (claim_of l.self) (names_here l.here (take l.set-index (map (λ s. s.1) l.sets)))
    (pair_of l.bound)
