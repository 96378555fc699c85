use Rattle.mls_certcheck.proofs.ThroughoutLemmas.{keep_form_throughout}
use Rattle.mls_certcheck.proofs.meaning.calls_keep_form_throughout.Goals as goal

pub returns : goal.returns
returns c = keep_form_throughout
