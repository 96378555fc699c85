use Rattle.std.proofs.Common.{◌≡◌, ◌-◌, take, drop}
use Rattle.mls_labeller.specs.Rising.{rows_of}
use Rattle.mls_labeller.proofs.labels.Labels.var_rows.Given as goal

-- the rows so far
abbrev pub invariant-loop-place : goal.invariant-loop-place
invariant-loop-place l = l.rows.items ≡ take (l.place - 1) (drop 1 (rows_of l.self))
