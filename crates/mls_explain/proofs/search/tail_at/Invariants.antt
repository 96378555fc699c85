use Rattle.std.proofs.Common.{take}
use Rattle.std.specs.List.{AllByRecursion}
use Rattle.mls_explain.specs.Search.{IsAt}
use Rattle.mls_explain.proofs.search.tail_at.Given as goal

abbrev pub invariant-loop-tail : goal.invariant-loop-tail
invariant-loop-tail l = AllByRecursion (λ t. IsAt l.limit l.slot t → ⊥) (take l.tail-index l.tails)
