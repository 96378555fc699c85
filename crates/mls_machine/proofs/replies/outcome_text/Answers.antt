use Rattle.std.proofs.Common.{◌++◌, ◌∙◌, sym, ap, cond, codes, decimal}
use Rattle.std.proofs.lemmas.Result.{IfOk-weaker}
use Rattle.mls_updates.specs.Outcome.{code_of, word_of}
use Rattle.mls_machine.proofs.replies.outcome_text.Goals as goal

pub returns : goal.returns
returns c =
    let refused = codes "refused " ++ decimal (code_of c.args.outcome) ++ codes " " ++ word_of c.args.outcome in
    IfOk-weaker c.coded_text.result _ _
    (λ t h. h ∙ (λ i. codes "refused " ++ decimal (c.code.ensures i) ++ codes " " ++ c.word.ensures i)
    ∙ sym (ap (λ b. cond b (codes "done") refused) (sym c.is_done.ensures ∙ c.if-is_done.false))) c.coded_text.ensures
