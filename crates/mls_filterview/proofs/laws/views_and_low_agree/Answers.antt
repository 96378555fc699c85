use Rattle.mls_filterview.proofs.LevelLemmas.{views_and_low_agree}
use Rattle.mls_filterview.proofs.laws.views_and_low_agree.Goals as goal

pub returns : goal.returns
returns c = views_and_low_agree
