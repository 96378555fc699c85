use Rattle.std.proofs.Common.{◌≡◌, ◌<◌, length}
use Rattle.std.specs.List.{AllByRecursion}
use Rattle.mls_filterview.specs.Reach.{numbers}
use Rattle.mls_filterview.proofs.reach.declared.Given as goal

abbrev pub invariant-loop-number : goal.invariant-loop-number
invariant-loop-number l = (l.labels.items ≡ numbers l.number)
    × AllByRecursion (λ m. m < length l.policy.labels) l.labels.items
