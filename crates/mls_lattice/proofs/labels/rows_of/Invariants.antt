use Rattle.std.proofs.Common.{◌≡◌, drop, [], length, map}
use Rattle.toml.specs.View.{items_view}
use Rattle.mls_lattice.specs.Policy.{named}
use Rattle.mls_lattice.specs.PolicyReading.{rows_at, label_at}
use Rattle.mls_lattice.proofs.labels.rows_of.Given as goal

abbrev pub invariant-loop-value : goal.invariant-loop-value
invariant-loop-value l =
    (rows_at (label_at l.levels l.categories) (map named l.labels.items) (items_view (drop l.value-index l.items))
    ≡ rows_at (label_at l.levels l.categories) [] (items_view l.items))
    × (length l.labels.items ≡ l.value-index)
