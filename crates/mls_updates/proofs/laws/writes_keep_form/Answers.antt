use Rattle.mls_updates.proofs.LawLemmas.{keep_form}
use Rattle.mls_updates.proofs.laws.writes_keep_form.Goals as goal

pub returns : goal.returns
returns c = keep_form
