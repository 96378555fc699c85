use Rattle.std.proofs.Common.{◌≡◌, drop}
use Rattle.std.specs.List.{list_all}
use Rattle.mls_rows.specs.declared.place.Step.TheVariants.{Classes}
use Rattle.mls_rows.specs.Finding.{is_within}
use Rattle.mls_rows.proofs.finding.are_within.Given as goal

abbrev pub invariant-loop-node : goal.invariant-loop-node
invariant-loop-node l = record {
  all : list_all (is_within l.labels) (drop l.node-index l.nodes) ≡ list_all (is_within l.labels) l.nodes;
  step : l.at.step ≡ Classes;
  row : l.at.row ≡ l.node-index;
}
