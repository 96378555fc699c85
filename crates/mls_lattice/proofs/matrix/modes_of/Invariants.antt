use Rattle.std.proofs.Common.{◌≡◌, drop}
use Rattle.toml.specs.View.{items_view}
use Rattle.mls_lattice.specs.PolicyReading.{more_modes}
use Rattle.mls_lattice.proofs.matrix.modes_of.Given as goal

abbrev pub invariant-loop-value : goal.invariant-loop-value
invariant-loop-value l = more_modes l.modes.0 (items_view (drop l.value-index l.items))
    ≡ more_modes 0 (items_view l.items)
