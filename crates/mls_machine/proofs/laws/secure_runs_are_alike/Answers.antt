use Rattle.mls_machine.proofs.RunLemmas.{secure_alike}
use Rattle.mls_machine.proofs.laws.secure_runs_are_alike.Goals as goal

pub returns : goal.returns
returns c = secure_alike
