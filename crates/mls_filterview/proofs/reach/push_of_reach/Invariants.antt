use Rattle.std.proofs.Common.{◌≡◌, ◌++◌, take, nat_eq, filter}
use Rattle.mls_lattice.specs.Policy.{labels_of}
use Rattle.mls_filterview.specs.Reach.{reach}
use Rattle.mls_filterview.proofs.reach.push_of_reach.Given as goal

abbrev pub invariant-loop-label : goal.invariant-loop-label
invariant-loop-label l =
    l.upward.items ≡ l.fn.upward.items ++ filter (λ m. nat_eq (reach (labels_of l.policy) m) l.count)
    (take l.label-index l.labels)
