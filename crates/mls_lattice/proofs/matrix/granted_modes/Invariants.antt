use Rattle.std.proofs.Common.{◌≡◌, drop}
use Rattle.mls_lattice.specs.Policy.{granted_modes}
use Rattle.mls_lattice.proofs.matrix.granted_modes.Given as goal

abbrev pub invariant-loop-right : goal.invariant-loop-right
invariant-loop-right l = granted_modes (drop l.right-index l.matrix) l.user l.object
    ≡ granted_modes l.matrix l.user l.object
