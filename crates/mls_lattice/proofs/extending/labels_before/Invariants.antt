use Rattle.std.proofs.Common.{◌≡◌, ◌++◌, take, flat_map}
use Rattle.mls_lattice.specs.Policy.{named}
use Rattle.mls_lattice.specs.Canon.{label_line}
use Rattle.mls_lattice.proofs.extending.labels_before.Given as goal

abbrev pub invariant-loop-place : goal.invariant-loop-place
invariant-loop-place l = l.text ≡ flat_map (λ x. label_line l.levels l.categories (named x)) (take l.place l.labels)
    ++ l.rest
