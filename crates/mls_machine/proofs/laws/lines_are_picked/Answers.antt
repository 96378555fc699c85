use Rattle.mls_machine.proofs.PickingLemmas.{lines_picked}
use Rattle.mls_machine.proofs.laws.lines_are_picked.Goals as goal

pub returns : goal.returns
returns c = lines_picked
