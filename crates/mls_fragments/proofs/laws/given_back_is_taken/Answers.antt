use Rattle.mls_fragments.proofs.HoldingsLemmas.{given_back}
use Rattle.mls_fragments.proofs.laws.given_back_is_taken.Goals as goal

pub returns : goal.returns
returns c = given_back
