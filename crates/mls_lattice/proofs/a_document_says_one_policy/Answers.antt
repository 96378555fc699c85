use Rattle.mls_lattice.proofs.ReadsPolicyLemmas.{one}
use Rattle.mls_lattice.proofs.a_document_says_one_policy.Goals as goal

pub returns : goal.returns
returns c = one
