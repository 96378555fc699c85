use Rattle.std.proofs.Common.{◌≡◌, ◌++◌, take, string_bytes, flat_map}
use Rattle.std.specs.List.{AllByRecursion}
use Rattle.mls_certcheck.specs.Spelling.{row_line, AreLabels}
use Rattle.mls_certcheck.proofs.writing.rows_to.Given as goal

-- what is written of the rows so far, each of which has a text
abbrev pub invariant-loop-row : goal.invariant-loop-row
invariant-loop-row l = record {
  written : string_bytes l.text ≡ string_bytes l.fn.text ++ flat_map row_line (take l.row-index l.rows);
  fits : AllByRecursion AreLabels (take l.row-index l.rows);
}
