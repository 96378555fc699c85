use Rattle.mls_script.proofs.LawLemmas.{lines_judged}
use Rattle.mls_script.proofs.lines_are_judged.Goals as goal

pub returns : goal.returns
returns c = lines_judged
