use Rattle.std.proofs.Common.{◌≡◌, drop, [], length}
use Rattle.toml.specs.View.{items_view}
use Rattle.mls_lattice.specs.Known.{KnowsNames}
use Rattle.mls_lattice.specs.PolicyReading.{rows_at, new_name_at}
use Rattle.mls_lattice.proofs.names.names_of.Given as goal

abbrev pub invariant-loop-value : goal.invariant-loop-value
invariant-loop-value l =
    (rows_at new_name_at l.names.items (items_view (drop l.value-index l.items)) ≡ rows_at new_name_at []
    (items_view l.items))
    × (length l.names.items ≡ l.value-index)
    × KnowsNames l.known l.names.items
