use Rattle.std.proofs.Common.{◌≡◌, ◌⊎◌}
use Rattle.mls_rows.proofs.place.Where.compare.Given as goal

abbrev pub invariant-loop-row : goal.invariant-loop-row
invariant-loop-row g l = (l.self.step ≡ l.loose) ⊎ (l.self.step ≡ l.missing)
