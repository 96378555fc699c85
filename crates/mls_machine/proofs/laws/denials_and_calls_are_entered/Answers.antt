use Rattle.mls_machine.proofs.RefusalLemmas.{entered}
use Rattle.mls_machine.proofs.laws.denials_and_calls_are_entered.Goals as goal

pub returns : goal.returns
returns c = entered
