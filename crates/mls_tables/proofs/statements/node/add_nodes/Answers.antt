use Rattle.sqlite.specs.Held.{state}
use Rattle.mls_tables.proofs.ChangeLemmas.{next_node, on}
use Rattle.mls_tables.proofs.statements.node.add_nodes.Goals as goal

pub loop-node-preserved : goal.loop-node-preserved
loop-node-preserved g c =
    on (state g.S.Store c.args.conn.now) (state g.S.Store c.loop-node.conn)
    (state g.S.Store c.add_node.new.conn) c.loop-node.invariant c.in_ok-add_node.ensures.wrote.clean
    (next_node c.args.nodes.now c.loop-node.node-index c.node-item.result c.loop-node-test.true c.node-item.is) c.in_ok-add_node.ensures.wrote.done
