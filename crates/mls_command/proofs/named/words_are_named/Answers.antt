use Rattle.mls_command.proofs.NamedLemmas.{named}
use Rattle.mls_command.proofs.named.words_are_named.Goals as goal

pub returns : goal.returns
returns c = named
