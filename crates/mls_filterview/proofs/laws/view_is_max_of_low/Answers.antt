use Rattle.mls_filterview.proofs.ViewLemmas.{view-low}
use Rattle.mls_filterview.proofs.laws.view_is_max_of_low.Goals as goal

pub returns : goal.returns
returns c = view-low
