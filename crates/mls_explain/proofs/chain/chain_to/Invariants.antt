use Rattle.std.proofs.Common.{ℕ, ◌+◌, length}
use Rattle.mls_labeller.specs.Flows.{body_lines}
use Rattle.mls_explain.specs.Steps.{steps}
use Rattle.mls_explain.specs.Chains.{IsBroken}
use Rattle.mls_explain.specs.Search.{IsUnderway}
use Rattle.mls_explain.proofs.chain.chain_to.Given as goal

-- after some loop-labeller
abbrev pub invariant-loop-labeller : goal.invariant-loop-labeller
invariant-loop-labeller l =
    let tx = l.fn.tx in
    (n : ℕ) × IsUnderway l.fn.policy tx (steps tx)
    (IsBroken tx.hi (body_lines tx) l.fn.broken) n l.search.tails.items l.search.left.items

abbrev pub decreases-loop-labeller : goal.decreases-loop-labeller
decreases-loop-labeller l = length l.search.tails.items + length l.search.left.items
