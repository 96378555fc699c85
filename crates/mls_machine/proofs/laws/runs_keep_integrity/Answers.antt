use Rattle.mls_machine.proofs.KeepingLemmas.{keep_integrity}
use Rattle.mls_machine.proofs.laws.runs_keep_integrity.Goals as goal

pub returns : goal.returns
returns c = keep_integrity
