use Rattle.std.proofs.Common.{◌≡◌, map, filter, take, nat_eq}
use Rattle.std.specs.List.{AllByRecursion}
use Rattle.mls_rows.specs.Holding.{cell_row, IsSpelledCell}
use Rattle.mls_rows.specs.declared.place.Step.TheVariants.{Cell}
use Rattle.mls_rows.proofs.reading.cells_of_relation.Given as goal

abbrev pub invariant-loop-row : goal.invariant-loop-row
invariant-loop-row l = record {
  shown : map (cell_row l.relation) l.cells.items ≡ filter (λ r. nat_eq r.rel l.relation) (take l.row-index l.rows);
  spelled : AllByRecursion IsSpelledCell l.cells.items;
  step : l.at.step ≡ Cell;
  row : l.at.row ≡ l.row-index;
}
