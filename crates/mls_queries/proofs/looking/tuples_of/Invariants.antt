use Rattle.std.proofs.Common.{◌≡◌, ◌++◌, map, length, filter}
use Rattle.mls_scheme.specs.Table.{tuple_at}
use Rattle.mls_queries.specs.Parts.{has_known}
use Rattle.mls_queries.proofs.looking.tuples_of.Given as goal

abbrev pub invariant-loop-place : goal.invariant-loop-place
invariant-loop-place l =
    l.tuples.items ++ filter (has_known (length l.policy.labels))
    (map (λ e. tuple_at e.0 e.1) l.place-iterator.rest.items)
    ≡ filter (has_known (length l.policy.labels)) (map (λ e. tuple_at e.0 e.1) l.fn.found.entries)
