use Rattle.std.proofs.Common.{◌≡◌, ◌++◌, take, string_bytes, flat_map}
use Rattle.mls_lattice.specs.Policy.{named}
use Rattle.mls_lattice.specs.Canon.{label_line}
use Rattle.mls_lattice.proofs.canon.labels_to.Given as goal

abbrev pub invariant-loop-label : goal.invariant-loop-label
invariant-loop-label l = string_bytes l.text ≡ string_bytes l.fn.text ++ flat_map (λ x. label_line l.levels l.categories
    (named x)) (take l.label-index l.labels)
