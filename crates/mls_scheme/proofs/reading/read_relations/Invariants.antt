use Rattle.std.proofs.Common.{◌≡◌, drop, []}
use Rattle.toml.specs.View.{items_view}
use Rattle.mls_scheme.specs.Reading.{scheme_at, gather}
use Rattle.mls_scheme.proofs.reading.read_relations.Given as goal

abbrev pub invariant-loop-value : goal.invariant-loop-value
invariant-loop-value l = gather (scheme_at l.policy) l.relations.items (items_view (drop l.value-index l.items))
    ≡ gather (scheme_at l.policy) [] (items_view l.items)
