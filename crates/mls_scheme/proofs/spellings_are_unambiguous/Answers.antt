use Rattle.mls_scheme.proofs.KeyLemmas.{unambiguous}
use Rattle.mls_scheme.proofs.spellings_are_unambiguous.Goals as goal

pub returns : goal.returns
returns c = unambiguous
