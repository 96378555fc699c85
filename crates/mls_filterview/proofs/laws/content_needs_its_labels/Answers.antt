-- proofs/laws/content_needs_its_labels/Answers.antt
use Rattle.mls_filterview.proofs.WideningLemmas.{content_needs_its_labels}
use Rattle.mls_filterview.proofs.laws.content_needs_its_labels.Goals as goal

pub returns : goal.returns
returns c = content_needs_its_labels
