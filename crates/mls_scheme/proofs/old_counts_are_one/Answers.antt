use Rattle.mls_scheme.proofs.ExtendingLemmas.{old_counts_one}
use Rattle.mls_scheme.proofs.old_counts_are_one.Goals as goal

pub returns : goal.returns
returns c = old_counts_one
