use Rattle.mls_translang.proofs.ReadsBackLemmas.{layouts_are_tokens as law}
use Rattle.mls_translang.proofs.layouts_are_tokens.Goals as goal

pub returns : goal.returns
returns c = law
