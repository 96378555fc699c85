use Rattle.mls_filterview.proofs.MendLemmas.{views_are_mended}
use Rattle.mls_filterview.proofs.laws.views_are_mended.Goals as goal

pub returns : goal.returns
returns c = views_are_mended
