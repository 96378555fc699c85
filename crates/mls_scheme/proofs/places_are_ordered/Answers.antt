use Rattle.mls_scheme.proofs.OrderLemmas.{ordered}
use Rattle.mls_scheme.proofs.places_are_ordered.Goals as goal

pub returns : goal.returns
returns c = ordered
