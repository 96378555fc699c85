use Rattle.mls_certcheck.proofs.MeaningLemmas.{keep_content}
use Rattle.mls_certcheck.proofs.meaning.calls_keep_content.Goals as goal

pub returns : goal.returns
returns c = keep_content
