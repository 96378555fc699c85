use Rattle.mls_fragments.proofs.AgainLemmas.{blank_is_nothing}
use Rattle.mls_fragments.proofs.laws.blank_is_nothing.Goals as goal

pub returns : goal.returns
returns c = blank_is_nothing
