use Rattle.std.proofs.Common.{◌++◌, map, take, flat_map, sym, ap, ◌∙◌}
use Rattle.mls_filterview.specs.Fragment.{cells_of}
use Rattle.mls_rows.specs.Finding.{cell_rows}
use Rattle.mls_rows.specs.Holding.{cell_row}
use Rattle.mls_rows.proofs.FindingLemmas.{cell_rows_next}
use Rattle.mls_rows.proofs.comparing.cell_rows.Goals as goal

pub loop-relation-preserved : goal.loop-relation-preserved
loop-relation-preserved c =
    c.in_ok-push_cells.ensures.pushed
    ∙ ap (λ l. l ++ map (cell_row c.new.result)
    (flat_map cells_of c.index-tables-relation.result.entries)) c.loop-relation.invariant
    ∙ ap (λ n. cell_rows 0 (map (λ t. t.entries) (take c.loop-relation.relation c.args.tables.now)) ++ map (cell_row n)
    (flat_map cells_of c.index-tables-relation.result.entries)) c.new.ensures
    ∙ sym (cell_rows_next (λ t. t.entries) c.args.tables.now c.loop-relation.relation c.index-tables-relation.result c.loop-relation-test.true c.index-tables-relation.is)
