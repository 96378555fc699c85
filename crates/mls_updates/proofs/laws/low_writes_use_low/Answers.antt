use Rattle.mls_updates.proofs.LawLemmas.{low_use_low}
use Rattle.mls_updates.proofs.laws.low_writes_use_low.Goals as goal

pub returns : goal.returns
returns c = low_use_low
