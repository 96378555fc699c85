use Rattle.std.proofs.Common.{◌≡◌, drop, []}
use Rattle.toml.specs.View.{items_view}
use Rattle.mls_scheme.specs.Reading.{other_at, gather}
use Rattle.mls_scheme.proofs.reading.read_other_attributes.Given as goal

abbrev pub invariant-loop-value : goal.invariant-loop-value
invariant-loop-value l = gather (other_at l.policy l.keys) l.others (items_view (drop l.value-index l.items))
    ≡ gather (other_at l.policy l.keys) [] (items_view l.items)
