use Rattle.mls_translang.proofs.TellsLemmas.{prints_are_told as law}
use Rattle.mls_translang.proofs.prints_are_told.Goals as goal

pub returns : goal.returns
returns c = law
