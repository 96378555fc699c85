use Rattle.mls_certcheck.proofs.MeaningLemmas.{give_items}
use Rattle.mls_certcheck.proofs.meaning.calls_give_items.Goals as goal

pub returns : goal.returns
returns c = give_items
