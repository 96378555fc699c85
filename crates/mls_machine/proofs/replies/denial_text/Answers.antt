use Rattle.std.proofs.Common.{◌++◌, ◌∙◌, codes, decimal}
use Rattle.std.proofs.lemmas.Result.{IfOk-weaker}
use Rattle.mls_machine.proofs.replies.denial_text.Goals as goal

pub returns : goal.returns
returns c = IfOk-weaker c.coded_text.result _ _ (λ t h. h ∙ (λ i. codes "denied " ++ decimal (c.code.ensures i)
    ++ codes " " ++ c.word.ensures i)) c.coded_text.ensures
