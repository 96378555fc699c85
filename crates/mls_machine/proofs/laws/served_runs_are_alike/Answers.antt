use Rattle.mls_machine.proofs.ServingLemmas.{served_alike}
use Rattle.mls_machine.proofs.laws.served_runs_are_alike.Goals as goal

pub returns : goal.returns
returns c = served_alike
