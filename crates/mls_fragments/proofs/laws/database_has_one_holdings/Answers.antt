use Rattle.mls_fragments.proofs.HoldingsLemmas.{has_once}
use Rattle.mls_fragments.proofs.laws.database_has_one_holdings.Goals as goal

pub returns : goal.returns
returns c = has_once
