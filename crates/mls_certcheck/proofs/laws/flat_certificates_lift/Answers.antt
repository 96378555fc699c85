use Rattle.mls_certcheck.proofs.LiftLemmas.{lift_rules}
use Rattle.mls_certcheck.proofs.laws.flat_certificates_lift.Goals as goal

pub returns : goal.returns
returns c = lift_rules
