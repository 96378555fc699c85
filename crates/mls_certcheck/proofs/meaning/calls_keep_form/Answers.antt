use Rattle.mls_certcheck.proofs.MeaningLemmas.{keep_form}
use Rattle.mls_certcheck.proofs.meaning.calls_keep_form.Goals as goal

pub returns : goal.returns
returns c = keep_form
