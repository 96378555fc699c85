use Rattle.std.proofs.Common.{◌≡◌, map, filter, take, nat_eq}
use Rattle.std.specs.List.{AllByRecursion}
use Rattle.mls_rows.specs.Holding.{node_row, IsSpelledNode}
use Rattle.mls_rows.specs.declared.place.Step.TheVariants.{Node}
use Rattle.mls_rows.proofs.reading.nodes_of_relation.Given as goal

abbrev pub invariant-loop-row : goal.invariant-loop-row
invariant-loop-row l = record {
  shown : map (node_row l.relation) l.nodes.items ≡ filter (λ r. nat_eq r.rel l.relation) (take l.row-index l.rows);
  spelled : AllByRecursion IsSpelledNode l.nodes.items;
  step : l.at.step ≡ Node;
  row : l.at.row ≡ l.row-index;
}
