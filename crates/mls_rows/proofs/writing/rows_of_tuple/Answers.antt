use Rattle.std.proofs.Common.{◌≡◌, map, subst₂, sym}
use Rattle.mls_tables.specs.Rows.{cell_beside}
use Rattle.mls_rows.specs.Holding.{cell_row}
use Rattle.mls_rows.proofs.CallLemmas.{beside_node, own_spelled}
use Rattle.mls_rows.proofs.writing.rows_of_tuple.Goals as goal

pub returns-clause-own : goal.returns-clause-own
returns-clause-own c =
    subst₂ (λ n own. map (cell_beside n) own ≡ map (cell_row c.args.relation) c.args.cells.now)
    (sym c.in_ok-row_of_node.ensures.made) (sym c.in_ok-own_cells.ensures.made)
    (beside_node c.args.relation c.args.node.now c.args.cells.now c.requires.cells)

pub own_cells-requires : goal.own_cells-requires
own_cells-requires c = own_spelled c.args.node.now c.args.cells.now c.requires.cells
