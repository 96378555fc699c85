use Rattle.mls_fragments.proofs.HoldingsLemmas.{sound_is_taken}
use Rattle.mls_fragments.proofs.laws.sound_is_taken_as_it_was.Goals as goal

pub returns : goal.returns
returns c = sound_is_taken
