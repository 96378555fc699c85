use Rattle.std.proofs.Common.{◌≡◌, ◌++◌, ◌+◌, drop}
use Rattle.mls_lattice.specs.Policy.{labels_of}
use Rattle.mls_queries.specs.Places.{is_top, places_from}
use Rattle.mls_queries.proofs.highest.add_tops.Given as goal

abbrev pub invariant-loop-index : goal.invariant-loop-index
invariant-loop-index l =
    l.places.items ++ places_from (is_top (labels_of l.policy) l.rows) (l.start + l.index) (drop l.index l.rows)
    ≡ l.fn.places.items ++ places_from (is_top (labels_of l.policy) l.rows) l.start l.rows
