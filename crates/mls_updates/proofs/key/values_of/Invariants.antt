use Rattle.std.proofs.Common.{◌≡◌, take, filter_map}
use Rattle.mls_updates.proofs.key.values_of.Given as goal

abbrev pub invariant-loop-value : goal.invariant-loop-value
invariant-loop-value l = l.values.items ≡ filter_map (λ v. v) (take l.value-index l.key)
