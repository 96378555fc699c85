use Rattle.std.proofs.Common.{take}
use Rattle.mls_lattice.specs.Lattice.{pair_of}
use Rattle.mls_certcheck.specs.Walk.{IsJoin}
use Rattle.mls_labeller.specs.Rising.{rows_of, claim_at}
use Rattle.mls_labeller.proofs.least.Rising.joined.Given as goal

-- the join of the sources so far
abbrev pub invariant-loop-source : goal.invariant-loop-source
invariant-loop-source l = IsJoin (claim_at l.self (rows_of l.labels)) (take l.source-index l.sources) (pair_of l.label)
