use Rattle.std.proofs.Common.{◌≡◌, map, take}
use Rattle.mls_rows.specs.Finding.{node_rows}
use Rattle.mls_rows.proofs.comparing.node_rows.Given as goal

abbrev pub invariant-loop-relation : goal.invariant-loop-relation
invariant-loop-relation l = l.rows.items ≡ node_rows 0 (map (λ t. t.entries) (take l.relation l.tables))
