use Rattle.mls_updates.proofs.LawLemmas.{keep_content}
use Rattle.mls_updates.proofs.laws.writes_keep_content.Goals as goal

pub returns : goal.returns
returns c = keep_content
