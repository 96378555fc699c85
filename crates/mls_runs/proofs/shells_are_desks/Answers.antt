use Rattle.mls_runs.proofs.LawLemmas.{shells_are_desks}
use Rattle.mls_runs.proofs.shells_are_desks.Goals as goal

pub returns : goal.returns
returns c = shells_are_desks
