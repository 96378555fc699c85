use Rattle.std.proofs.Common.{◌≡◌, ◌-◌, []}
use Rattle.mls_scheme.specs.KeyReading.{values_at}
use Rattle.mls_scheme.proofs.key_reading.values_of.Given as goal

abbrev pub invariant-loop : goal.invariant-loop
invariant-loop l = values_at l.values.items (l.count - l.counter) l.rest ≡ values_at [] l.count l.bytes
