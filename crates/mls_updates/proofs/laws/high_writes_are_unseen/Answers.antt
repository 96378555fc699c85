use Rattle.mls_updates.proofs.LawLemmas.{high_unseen}
use Rattle.mls_updates.proofs.laws.high_writes_are_unseen.Goals as goal

pub returns : goal.returns
returns c = high_unseen
