use Rattle.std.proofs.Common.{◌∙◌, sym}
use Rattle.std.proofs.lemmas.Result.{IfOk-weaker}
use Rattle.mls_machine.specs.declared.form.Form.TheVariants.{Table}
use Rattle.mls_machine.specs.Output.{batch_texts}
use Rattle.mls_machine.specs.Under.{site_under}
use Rattle.mls_machine.proofs.ShowingLemmas.{all_heard, none_heard}
use Rattle.mls_machine.proofs.showing.heard_tables.Goals as goal

pub returns-then-is_shown : goal.returns-then-is_shown
returns-then-is_shown c =
    let site = site_under c.args.to.now.policy.now c.args.to.now.schemes.now in
    IfOk-weaker c.batch_bytes.result _ _
    (λ v h. h ∙ all_heard site c.args.to.now.event.now c.args.reader (sym c.is_shown.ensures ∙ c.if-is_shown.true)
    (batch_texts Table site c.args.to.now.event.now.command c.args.answers.now)) c.batch_bytes.ensures

pub returns-else-is_shown : goal.returns-else-is_shown
returns-else-is_shown c =
    let site = site_under c.args.to.now.policy.now c.args.to.now.schemes.now in
    c.new.ensures.items ∙ none_heard site c.args.to.now.event.now c.args.reader (sym c.is_shown.ensures
    ∙ c.if-is_shown.false) (batch_texts Table site c.args.to.now.event.now.command c.args.answers.now)
