use Rattle.mls_machine.proofs.RunLemmas.{runs_alike}
use Rattle.mls_machine.proofs.laws.low_runs_are_alike.Goals as goal

pub returns : goal.returns
returns c = runs_alike
