use Rattle.mls_machine.proofs.HistoryLemmas.{accepted_histories}
use Rattle.mls_machine.proofs.laws.accepted_histories_are_alike.Goals as goal

pub returns : goal.returns
returns c = accepted_histories
