use Rattle.mls_fragments.proofs.AgainLemmas.{kept_is_found}
use Rattle.mls_fragments.proofs.laws.kept_is_found.Goals as goal

pub returns : goal.returns
returns c = kept_is_found
