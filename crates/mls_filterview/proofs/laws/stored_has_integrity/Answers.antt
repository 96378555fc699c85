use Rattle.mls_filterview.proofs.IntegrityLemmas.{has_integrity}
use Rattle.mls_filterview.proofs.laws.stored_has_integrity.Goals as goal

pub returns : goal.returns
returns c = has_integrity
