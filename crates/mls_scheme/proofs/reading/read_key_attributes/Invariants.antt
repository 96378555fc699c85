use Rattle.std.proofs.Common.{◌≡◌, drop, []}
use Rattle.toml.specs.View.{items_view}
use Rattle.mls_scheme.specs.Reading.{key_at, gather}
use Rattle.mls_scheme.proofs.reading.read_key_attributes.Given as goal

abbrev pub invariant-loop-value : goal.invariant-loop-value
invariant-loop-value l = gather (key_at l.policy) l.keys (items_view (drop l.value-index l.items))
    ≡ gather (key_at l.policy) [] (items_view l.items)
