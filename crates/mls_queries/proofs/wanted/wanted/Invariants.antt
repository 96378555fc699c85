use Rattle.std.proofs.Common.{◌≡◌, take, slice_index_or, filter}
use Rattle.mls_lattice.specs.Policy.{labels_of}
use Rattle.mls_scheme.specs.Tuple.{no_tuple}
use Rattle.mls_queries.specs.Query.{is_wanted}
use Rattle.mls_queries.proofs.wanted.wanted.Given as goal

abbrev pub invariant-loop-place : goal.invariant-loop-place
invariant-loop-place l =
    l.wanted.items ≡ filter (λ p. is_wanted (labels_of l.policy) l.query (slice_index_or l.rows p no_tuple))
    (take l.place-index l.places)
