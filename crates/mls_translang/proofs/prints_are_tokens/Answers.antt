use Rattle.mls_translang.proofs.PrintedLemmas.{prints_are_tokens as law}
use Rattle.mls_translang.proofs.prints_are_tokens.Goals as goal

pub returns : goal.returns
returns c = law
