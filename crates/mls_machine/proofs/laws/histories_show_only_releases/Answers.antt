use Rattle.mls_machine.proofs.HistoryLemmas.{histories_show}
use Rattle.mls_machine.proofs.laws.histories_show_only_releases.Goals as goal

pub returns : goal.returns
returns c = histories_show
