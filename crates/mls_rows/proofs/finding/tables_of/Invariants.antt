use Rattle.std.proofs.Common.{◌≡◌, length, map}
use Rattle.mls_rows.specs.Finding.{AreAssembled}
use Rattle.mls_rows.proofs.finding.tables_of.Given as goal

abbrev pub invariant-loop-relation : goal.invariant-loop-relation
invariant-loop-relation l = record {
  count : length l.tables.items ≡ l.relation;
  assembled : AreAssembled l.nodes l.cells (map (λ t. t.entries) l.tables.items);
}
