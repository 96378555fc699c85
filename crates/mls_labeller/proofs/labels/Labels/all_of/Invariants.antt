use Rattle.std.proofs.Common.{◌≡◌, ◌∷◌, replicate}
use Rattle.mls_labeller.specs.Rising.{rows_of}
use Rattle.mls_labeller.proofs.labels.Labels.all_of.Given as goal

-- the rows so far
abbrev pub invariant-loop : goal.invariant-loop
invariant-loop l = rows_of (record { rows = l.rows }) ≡ replicate l.stmts l.label ∷ replicate l.counter
    (replicate l.vars l.label)
