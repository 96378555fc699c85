use Rattle.std.proofs.Common.{◌≡◌, ℕ, None, length, slice_index_or}
use Rattle.mls_trusted.proofs.frame.nulls.Given as goal

abbrev pub invariant-loop-place : goal.invariant-loop-place
invariant-loop-place l = record {
  count : length l.values.items ≡ l.place;
  null : (i : ℕ) → slice_index_or l.values.items i None ≡ None;
}
