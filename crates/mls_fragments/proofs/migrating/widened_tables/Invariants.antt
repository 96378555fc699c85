use Rattle.std.proofs.Common.{◌≡◌, ◌+◌, ◌++◌, length, map}
use Rattle.mls_fragments.specs.Migrating.{wide_tables}
use Rattle.mls_fragments.proofs.migrating.widened_tables.Given as goal

abbrev pub invariant-loop-table : goal.invariant-loop-table
invariant-loop-table l = record {
  count : l.relation + length l.table-iterator.rest.items ≡ length l.counts;
  wide : map (λ t. t.entries) l.wide.items ++ wide_tables l.schemes l.counts l.relation
      (map (λ t. t.entries) l.table-iterator.rest.items) ≡ wide_tables l.schemes l.counts 0
      (map (λ t. t.entries) l.fn.tables.items);
}
