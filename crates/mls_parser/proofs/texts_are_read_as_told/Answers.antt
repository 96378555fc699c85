use Rattle.mls_parser.proofs.LawLemmas.{texts_are_read_as_told as law}
use Rattle.mls_parser.proofs.texts_are_read_as_told.Goals as goal

pub returns : goal.returns
returns c = law
