use Rattle.mls_certcheck.proofs.CertLemmas.{unambiguous}
use Rattle.mls_certcheck.proofs.certificates_are_unambiguous.Goals as goal

pub returns : goal.returns
returns c = unambiguous
