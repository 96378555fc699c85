use Rattle.mls_machine.proofs.RunLemmas.{accepted_alike}
use Rattle.mls_machine.proofs.laws.accepted_runs_are_alike.Goals as goal

pub returns : goal.returns
returns c = accepted_alike
