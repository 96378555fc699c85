use Rattle.mls_fragments.proofs.OneContentLemmas.{one_content}
use Rattle.mls_fragments.proofs.laws.rows_hold_one_content.Goals as goal

pub returns : goal.returns
returns c = one_content
