-- proofs/laws/widened_was_content/Answers.antt
use Rattle.mls_filterview.proofs.WideningLemmas.{widened_was_content}
use Rattle.mls_filterview.proofs.laws.widened_was_content.Goals as goal

pub returns : goal.returns
returns c = widened_was_content
