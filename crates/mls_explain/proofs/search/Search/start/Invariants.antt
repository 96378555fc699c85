use Rattle.std.proofs.Common.{take}
use Rattle.mls_lattice.specs.Policy.{Policy}
use Rattle.mls_translang.specs.Tx.{Tx}
use Rattle.mls_explain.specs.Chains.{IsBroken}
use Rattle.mls_explain.specs.Search.{IsUnderway}
use Rattle.mls_explain.proofs.search.Search.start.Given as goal

-- by the lines so far
abbrev pub invariant-loop-line : goal.invariant-loop-line
invariant-loop-line l = (p : Policy) (tx : Tx)
    → IsUnderway p tx l.steps (IsBroken l.hi (take l.line-index l.lines) l.broken) 0 l.search.tails.items l.search.left.items
