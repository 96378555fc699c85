use Rattle.std.proofs.Common.{◌≡◌, map, sym, subst}
use Rattle.mls_tables.specs.Rows.{cell_beside}
use Rattle.mls_rows.specs.Holding.{cell_row}
use Rattle.mls_rows.proofs.CallLemmas.{adds_both}
use Rattle.mls_rows.proofs.writing.add_tuple.Goals as goal

pub returns-in_ok-add_node-in-Ok-clause-done : goal.returns-in_ok-add_node-in-Ok-clause-done
returns-in_ok-add_node-in-Ok-clause-done g c clean =
    adds_both c.args.relation c.args.node.now c.args.cells.now c.in-Ok.rows.node c.deref.result.now c.args.store.now c.add_node.new.self c.add_cells.new.self c.add_cells.result
    c.in-Ok.ensures.node (subst (λ own. map (cell_beside c.in-Ok.rows.node) own
    ≡ map (cell_row c.args.relation) c.args.cells.now) (sym c.deref.ensures.value) c.in-Ok.ensures.own)
    (c.in_ok-add_node-in-Ok.ensures.done (c.add_cells.ensures.call.clean clean)) (c.add_cells.ensures.done clean)
