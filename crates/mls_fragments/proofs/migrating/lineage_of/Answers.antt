use Rattle.std.proofs.Common.{rules}
use Rattle.mls_fragments.proofs.migrating.lineage_of.Goals as goal

pub returns-in-None-clause-none : goal.returns-in-None-clause-none
returns-in-None-clause-none c none = record {
  other = search rules;
  not_older = λ labels counts extended. c.in_ok-older.ensures.none c.in-None.is labels counts extended.labels_are extended.counts_are;
}
