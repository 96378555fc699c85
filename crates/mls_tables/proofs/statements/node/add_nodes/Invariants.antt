use Rattle.std.proofs.Common.{take}
use Rattle.sqlite.specs.Held.{state}
use Rattle.mls_tables.specs.Statements.{AddsNodes}
use Rattle.mls_tables.proofs.ChangeLemmas.{IsSoFar}
use Rattle.mls_tables.proofs.statements.node.add_nodes.Given as goal

abbrev pub invariant-loop-node : goal.invariant-loop-node
invariant-loop-node g l = IsSoFar (AddsNodes (take l.node-index l.nodes)) (state g.S.Store l.fn.conn)
    (state g.S.Store l.conn)
