-- proofs/laws/widening_keeps_content/Answers.antt
use Rattle.mls_filterview.proofs.WideningLemmas.{widening_keeps_content}
use Rattle.mls_filterview.proofs.laws.widening_keeps_content.Goals as goal

pub returns : goal.returns
returns c = widening_keeps_content
