use Rattle.mls_script.proofs.TellingLemmas.{scripts_once}
use Rattle.mls_script.proofs.scripts_are_read_once.Goals as goal

pub returns : goal.returns
returns c = scripts_once
