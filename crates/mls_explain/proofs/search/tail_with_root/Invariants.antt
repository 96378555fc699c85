use Rattle.std.proofs.Common.{◌≡◌, false, take}
use Rattle.std.specs.List.{AllByRecursion}
use Rattle.mls_explain.specs.Chains.{is_root}
use Rattle.mls_explain.proofs.search.tail_with_root.Given as goal

abbrev pub invariant-loop-tail : goal.invariant-loop-tail
invariant-loop-tail l = AllByRecursion (λ t. is_root l.labeller.policy.now l.labeller.tx.now t.limit t.root ≡ false)
    (take l.tail-index l.tails)
