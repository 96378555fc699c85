use Rattle.mls_parser.proofs.LawLemmas.{prints_are_read as law}
use Rattle.mls_parser.proofs.prints_are_read.Goals as goal

pub returns : goal.returns
returns c = law
