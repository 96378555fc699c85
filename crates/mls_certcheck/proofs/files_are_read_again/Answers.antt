use Rattle.mls_certcheck.proofs.FileLemmas.{file_again}
use Rattle.mls_certcheck.proofs.files_are_read_again.Goals as goal

pub returns : goal.returns
returns c = file_again
