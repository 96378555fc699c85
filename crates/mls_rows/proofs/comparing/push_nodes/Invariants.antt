use Rattle.std.proofs.Common.{◌≡◌, ◌++◌, map, take}
use Rattle.mls_rows.specs.Holding.{node_row}
use Rattle.mls_rows.proofs.comparing.push_nodes.Given as goal

abbrev pub invariant-loop-node : goal.invariant-loop-node
invariant-loop-node l = l.rows.items ≡ l.initial.rows.items ++ map (node_row l.relation)
    (take l.node-index l.node-items)
