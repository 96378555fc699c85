use Rattle.std.proofs.Common.{take}
use Rattle.mls_explain.specs.Search.{IsRound}
use Rattle.mls_explain.proofs.search.Search.next.Given as goal

-- of the steps so far
abbrev pub invariant-loop-entry : goal.invariant-loop-entry
invariant-loop-entry l = IsRound l.self.tails.items
    (take l.entry-index l.entry-items) l.next.tails.items l.next.left.items
