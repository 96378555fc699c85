use Rattle.mls_filterview.proofs.LevelLemmas.{stored-view}
use Rattle.mls_filterview.proofs.laws.view_tells_low.Goals as goal

pub returns : goal.returns
returns c = stored-view
