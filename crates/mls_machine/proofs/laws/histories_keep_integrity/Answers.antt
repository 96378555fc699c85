use Rattle.mls_machine.proofs.HistoryLemmas.{histories_keep}
use Rattle.mls_machine.proofs.laws.histories_keep_integrity.Goals as goal

pub returns : goal.returns
returns c = histories_keep
