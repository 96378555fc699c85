-- proofs/laws/view_of_widened/Answers.antt
use Rattle.mls_filterview.proofs.WidenLemmas.{view_of_widened}
use Rattle.mls_filterview.proofs.laws.view_of_widened.Goals as goal

pub returns : goal.returns
returns c = view_of_widened
