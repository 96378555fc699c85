use Rattle.mls_machine.proofs.HistoryLemmas.{histories_pass}
use Rattle.mls_machine.proofs.laws.histories_pass_what_runs_pass.Goals as goal

pub returns : goal.returns
returns c = histories_pass
