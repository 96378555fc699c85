use Rattle.mls_machine.proofs.HistoryLemmas.{low_histories}
use Rattle.mls_machine.proofs.laws.low_histories_are_alike.Goals as goal

pub returns : goal.returns
returns c = low_histories
