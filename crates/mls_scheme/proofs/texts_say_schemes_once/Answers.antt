use Rattle.mls_scheme.proofs.SchemeLemmas.{says_once}
use Rattle.mls_scheme.proofs.texts_say_schemes_once.Goals as goal

pub returns : goal.returns
returns c = says_once
