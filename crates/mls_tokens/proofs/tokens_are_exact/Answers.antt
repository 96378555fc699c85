use Rattle.mls_tokens.proofs.TokensLemmas.{tokens_exact}
use Rattle.mls_tokens.proofs.tokens_are_exact.Goals as goal

pub returns : goal.returns
returns c = tokens_exact
