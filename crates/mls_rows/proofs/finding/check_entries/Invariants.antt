use Rattle.std.proofs.Common.{◌≡◌, take}
use Rattle.std.specs.List.{AllByRecursion}
use Rattle.mls_audit.specs.Spelling.{IsEntryOf}
use Rattle.mls_rows.specs.declared.place.Step.TheVariants.{Entry}
use Rattle.mls_rows.proofs.finding.check_entries.Given as goal

abbrev pub invariant-loop-row : goal.invariant-loop-row
invariant-loop-row l = record {
  all : AllByRecursion (λ r. IsEntryOf l.labels r.bytes) (take l.row-index l.rows);
  step : l.at.step ≡ Entry;
  row : l.at.row ≡ l.row-index;
}
