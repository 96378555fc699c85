use Rattle.mls_updates.proofs.LawLemmas.{low_see_low}
use Rattle.mls_updates.proofs.laws.low_writes_see_low.Goals as goal

pub returns : goal.returns
returns c = low_see_low
