use Rattle.mls_certcheck.proofs.LawLemmas.{sharp_rules, ceilings_tell_nothing}
use Rattle.mls_certcheck.proofs.laws.rules_make_sharp.Goals as goal

pub returns-clause-sharp : goal.returns-clause-sharp
returns-clause-sharp c = sharp_rules

pub returns-clause-ceiling : goal.returns-clause-ceiling
returns-clause-ceiling c = ceilings_tell_nothing
