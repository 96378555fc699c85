use Rattle.mls_updates.proofs.ExpectedLemmas.{expect_nothing}
use Rattle.mls_updates.proofs.laws.writes_expect_nothing.Goals as goal

pub returns : goal.returns
returns c = expect_nothing
