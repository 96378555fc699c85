use Rattle.cases.proofs.AskedLemmas.{not_alone}
use Rattle.cases.proofs.reads.BrokenBase.fragment.Goals as goal

pub returns-clause-access : goal.returns-clause-access
returns-clause-access c = record {
  reads = λ m off. c.held.ensures.access.reads m (not_alone m c.args.label off);
  changes = c.held.ensures.access.changes;
}
