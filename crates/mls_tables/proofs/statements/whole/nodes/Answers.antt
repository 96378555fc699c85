use Rattle.sqlite.specs.Held.{state}
use Rattle.mls_tables.proofs.StreamingLemmas.{reads_nodes}
use Rattle.mls_tables.proofs.statements.whole.nodes.Goals as goal

pub returns : goal.returns
returns g c = reads_nodes (state g.S.Store c.args.conn.now)
    (state g.S.Store c.whole.new.conn) c.whole.result c.whole.ensures
