use Rattle.mls_parser.proofs.LawLemmas.{transactions_are_read_once as law}
use Rattle.mls_parser.proofs.transactions_are_read_once.Goals as goal

pub returns : goal.returns
returns c = law
