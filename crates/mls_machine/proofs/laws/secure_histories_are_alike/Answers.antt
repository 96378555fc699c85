use Rattle.mls_machine.proofs.HistoryLemmas.{secure_histories}
use Rattle.mls_machine.proofs.laws.secure_histories_are_alike.Goals as goal

pub returns : goal.returns
returns c = secure_histories
