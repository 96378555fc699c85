use Rattle.mls_certcheck.proofs.FileLemmas.{files_unambiguous}
use Rattle.mls_certcheck.proofs.files_are_unambiguous.Goals as goal

pub returns : goal.returns
returns c = files_unambiguous
