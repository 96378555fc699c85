use Rattle.std.proofs.Common.{◌++◌, map, take, sym, ap, ◌∙◌}
use Rattle.mls_filterview.specs.Fragment.{node_of}
use Rattle.mls_rows.specs.Finding.{node_rows}
use Rattle.mls_rows.specs.Holding.{node_row}
use Rattle.mls_rows.proofs.FindingLemmas.{node_rows_next}
use Rattle.mls_rows.proofs.comparing.node_rows.Goals as goal

pub loop-relation-preserved : goal.loop-relation-preserved
loop-relation-preserved c =
    c.in_ok-push_nodes.ensures.pushed
    ∙ ap (λ l. l ++ map (node_row c.new.result)
    (map node_of c.index-tables-relation.result.entries)) c.loop-relation.invariant
    ∙ ap (λ n. node_rows 0 (map (λ t. t.entries) (take c.loop-relation.relation c.args.tables.now)) ++ map (node_row n)
    (map node_of c.index-tables-relation.result.entries)) c.new.ensures
    ∙ sym (node_rows_next (λ t. t.entries) c.args.tables.now c.loop-relation.relation c.index-tables-relation.result c.loop-relation-test.true c.index-tables-relation.is)
