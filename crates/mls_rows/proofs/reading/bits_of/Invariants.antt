use Rattle.std.proofs.Common.{◌≡◌, ◌<◌, ℕ, take, nat_eq}
use Rattle.std.specs.List.{list_any}
use Rattle.mls_tables.specs.Rows.{has_bit}
use Rattle.mls_rows.proofs.reading.bits_of.Given as goal

abbrev pub invariant-loop-label : goal.invariant-loop-label
invariant-loop-label l = (m : ℕ) → m < 64 → has_bit l.bits m ≡ list_any (λ k. nat_eq m k) (take l.label-index l.labels)
