use Rattle.std.specs.BTreeMap.{get}
use Rattle.mls_filterview.specs.Assembly.{cell_place_cmp}
use Rattle.mls_rows.proofs.finding.assembled.Goals as goal

pub returns-clause-assembled : goal.returns-clause-assembled
returns-clause-assembled c = record {
  ns = c.in_ok-nodes.nodes;
  cs = c.in_ok-cells_of_relation.field-0;
  held = get cell_place_cmp c.in_ok-values.values;
  nodes_are = c.in_ok-nodes.ensures.shown;
  cells_are = c.in_ok-cells_of_relation.ensures.shown;
  nodes_spelled = c.in_ok-nodes.ensures.spelled;
  cells_spelled = c.in_ok-cells_of_relation.ensures.spelled;
  values = c.in_ok-values.ensures;
  sorted = c.in_ok-rows_of.ensures.ordered;
  rows = c.in_ok-rows_of.ensures.rows;
}
