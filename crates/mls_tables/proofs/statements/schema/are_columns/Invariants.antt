use Rattle.std.proofs.Common.{◌≡◌, map, take}
use Rattle.mls_tables.specs.Schema.{needed}
use Rattle.mls_tables.proofs.statements.schema.are_columns.Given as goal

abbrev pub invariant-loop-at : goal.invariant-loop-at
invariant-loop-at l = take l.at l.columns ≡ map (λ w. needed w.0.now w.1) (take l.at l.wanted)
