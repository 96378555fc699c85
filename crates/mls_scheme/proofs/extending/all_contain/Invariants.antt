use Rattle.std.proofs.Common.{◌↔◌, drop}
use Rattle.std.specs.List.{AllByRecursion}
use Rattle.mls_lattice.specs.Policy.{labels_of}
use Rattle.mls_scheme.specs.Extending.{Contains}
use Rattle.mls_scheme.proofs.extending.all_contain.Given as goal

abbrev pub invariant-loop-place : goal.invariant-loop-place
invariant-loop-place l =
    AllByRecursion (Contains (labels_of l.policy) l.low l.high) (drop l.place l.attributes)
    ↔ AllByRecursion (Contains (labels_of l.policy) l.low l.high) (drop l.count l.attributes)
