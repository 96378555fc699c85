use Rattle.mls_machine.proofs.RefusalLemmas.{refusal_left}
use Rattle.mls_machine.proofs.laws.refusals_change_nothing.Goals as goal

pub returns : goal.returns
returns c = refusal_left
