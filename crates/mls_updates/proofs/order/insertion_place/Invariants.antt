use Rattle.std.proofs.Common.{◌≡◌, ◌+◌, drop}
use Rattle.mls_lattice.specs.Policy.{labels_of}
use Rattle.mls_updates.proofs.DownwardLemmas.{before}
use Rattle.mls_updates.proofs.order.insertion_place.Given as goal

abbrev pub invariant-loop-place : goal.invariant-loop-place
invariant-loop-place l = l.place + before (labels_of l.policy) l.label (drop l.place l.order)
    ≡ before (labels_of l.policy) l.label l.order
