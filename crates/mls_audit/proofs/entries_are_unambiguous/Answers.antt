use Rattle.mls_audit.proofs.EntryLemmas.{unambiguous}
use Rattle.mls_audit.proofs.entries_are_unambiguous.Goals as goal

pub returns : goal.returns
returns c = unambiguous
