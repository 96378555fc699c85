use Rattle.mls_machine.proofs.ScreenLemmas.{tables_harmless}
use Rattle.mls_machine.proofs.laws.tables_are_harmless.Goals as goal

pub returns : goal.returns
returns c = tables_harmless
