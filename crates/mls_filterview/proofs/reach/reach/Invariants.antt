use Rattle.std.proofs.Common.{◌≡◌, ◌≤◌, length, take, filter}
use Rattle.mls_lattice.specs.Labels.{below}
use Rattle.mls_lattice.specs.Policy.{labels_of}
use Rattle.mls_filterview.proofs.reach.reach.Given as goal

abbrev pub invariant-loop-low : goal.invariant-loop-low
invariant-loop-low l =
    (l.count ≡ length (filter (λ k. below (labels_of l.policy) k l.label) (take l.low-index l.labels)))
    × (l.count ≤ l.low-index)
