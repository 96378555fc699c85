use Rattle.std.proofs.Common.{◌≡◌, ◌<◌, ℕ, None}
use Rattle.mls_lattice.specs.Policy.{labels_of}
use Rattle.mls_filterview.specs.Checking.{broken_rule}
use Rattle.mls_filterview.proofs.checking.integrity.Given as goal

abbrev pub invariant-loop-row : goal.invariant-loop-row
invariant-loop-row l =
    (j : ℕ) → j < l.row → broken_rule (labels_of l.policy) l.scheme l.tuples j ≡ None
