use Rattle.mls_fragments.proofs.NewerLemmas.{seen_alike}
use Rattle.mls_fragments.proofs.laws.widened_is_seen_alike.Goals as goal

pub returns : goal.returns
returns c = seen_alike
