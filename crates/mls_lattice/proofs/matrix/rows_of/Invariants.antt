use Rattle.std.proofs.Common.{◌≡◌, drop, []}
use Rattle.toml.specs.View.{items_view}
use Rattle.mls_lattice.specs.Known.{KnowsRights}
use Rattle.mls_lattice.specs.PolicyReading.{rights_at}
use Rattle.mls_lattice.proofs.matrix.rows_of.Given as goal

abbrev pub invariant-loop-value : goal.invariant-loop-value
invariant-loop-value l =
    (rights_at l.users l.matrix.items (items_view (drop l.value-index l.items))
    ≡ rights_at l.users [] (items_view l.items))
    × KnowsRights l.known l.matrix.items
