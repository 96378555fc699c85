use Rattle.mls_certcheck.proofs.LawLemmas.{secure_rules}
use Rattle.mls_certcheck.proofs.laws.rules_make_secure.Goals as goal

pub returns : goal.returns
returns c = secure_rules
