use Rattle.std.proofs.Common.{◌≡◌, drop, [], length, map}
use Rattle.toml.specs.View.{items_view}
use Rattle.mls_lattice.specs.Policy.{named}
use Rattle.mls_lattice.specs.PolicyReading.{rows_at, user_at}
use Rattle.mls_lattice.proofs.users.rows_of.Given as goal

abbrev pub invariant-loop-value : goal.invariant-loop-value
invariant-loop-value l =
    (rows_at (user_at (map named l.labels)) l.users.items (items_view (drop l.value-index l.items))
    ≡ rows_at (user_at (map named l.labels)) [] (items_view l.items))
    × (length l.users.items ≡ l.value-index)
