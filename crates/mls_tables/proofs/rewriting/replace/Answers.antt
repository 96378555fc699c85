use Rattle.sqlite.specs.Held.{state}
use Rattle.mls_tables.proofs.ChangeLemmas.{replaced}
use Rattle.mls_tables.proofs.rewriting.replace.Goals as goal

pub returns : goal.returns
returns g c =
    replaced c.args.nodes.now c.args.cells.now c.args.version c.args.lattice.now c.args.schemes.now
    (state g.S.Store c.args.conn.now) (state g.S.Store c.clear.new.conn) (state g.S.Store c.add_meta.new.conn)
    (state g.S.Store c.add_nodes.new.conn) (state g.S.Store c.add_cells.new.conn) _ _ _ c.add_cells.result c.in_ok-clear.ensures c.in_ok-add_meta.ensures c.in_ok-add_nodes.ensures c.add_cells.ensures
