use Rattle.std.proofs.Common.{◌≡◌, ◌+◌, pos, drop}
use Rattle.mls_tables.specs.Rows.{are_numbered}
use Rattle.mls_rows.specs.declared.place.Step.TheVariants.{Number}
use Rattle.mls_rows.proofs.finding.pass_numbered.Given as goal

abbrev pub invariant-loop-row : goal.invariant-loop-row
invariant-loop-row l = record {
  last : l.last ≡ pos l.row-index;
  rest : are_numbered (pos (l.row-index + 1)) (drop l.row-index l.rows) ≡ are_numbered (pos 1) l.rows;
  step : l.at.step ≡ Number;
  row : l.at.row ≡ l.row-index;
}
