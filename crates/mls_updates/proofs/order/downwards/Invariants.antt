use Rattle.std.proofs.Common.{◌≡◌, ◌<◌, length}
use Rattle.std.specs.List.{AllByRecursion}
use Rattle.mls_lattice.specs.Policy.{labels_of}
use Rattle.mls_updates.proofs.DownwardLemmas.{downward}
use Rattle.mls_updates.proofs.order.downwards.Given as goal

abbrev pub invariant-loop-number : goal.invariant-loop-number
invariant-loop-number l = (l.order.items ≡ downward (labels_of l.policy) l.w l.number)
    × AllByRecursion (λ m. m < length l.policy.labels) l.order.items
