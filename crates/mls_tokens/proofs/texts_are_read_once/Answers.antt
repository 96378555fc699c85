use Rattle.mls_tokens.proofs.TokensLemmas.{texts_once}
use Rattle.mls_tokens.proofs.texts_are_read_once.Goals as goal

pub returns : goal.returns
returns c = texts_once
