use Rattle.std.proofs.Common.{◌≡◌, drop, []}
use Rattle.toml.specs.View.{items_view}
use Rattle.mls_lattice.specs.PolicyReading.{rows_at, user_no_at}
use Rattle.mls_lattice.proofs.matrix.user_nos.Given as goal

abbrev pub invariant-loop-value : goal.invariant-loop-value
invariant-loop-value l = rows_at (user_no_at l.users) l.named.items (items_view (drop l.value-index l.items))
    ≡ rows_at (user_no_at l.users) [] (items_view l.items)
