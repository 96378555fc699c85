use Rattle.mls_tokens.proofs.HarmlessLemmas.{escaped_harmless}
use Rattle.mls_tokens.proofs.escaping.escaped_texts_are_harmless.Goals as goal

pub returns : goal.returns
returns c = escaped_harmless
