use Rattle.std.proofs.Common.{◌≡◌, drop}
use Rattle.mls_lattice.specs.Lattice.{pair_of}
use Rattle.mls_machine.specs.Output.{name_of}
use Rattle.mls_machine.proofs.printing_rows.name_of.Given as goal

abbrev pub invariant-loop-number : goal.invariant-loop-number
invariant-loop-number l = name_of (drop l.number l.policy.labels) (pair_of l.class) ≡ name_of l.policy.labels
    (pair_of l.class)
