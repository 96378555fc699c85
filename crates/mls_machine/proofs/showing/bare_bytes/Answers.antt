use Rattle.std.proofs.Common.{◌∙◌, ap, sym}
use Rattle.std.proofs.lemmas.Result.{IfOk-weaker}
use Rattle.mls_machine.specs.declared.reply.Reply.TheVariants.{Did}
use Rattle.mls_machine.specs.Under.{site_under}
use Rattle.mls_machine.proofs.ShowingLemmas.{rows_heard, batch_heard, others_heard}
use Rattle.mls_machine.proofs.showing.bare_bytes.Goals as goal

pub returns-in-Rows : goal.returns-in-Rows
returns-in-Rows c =
    IfOk-weaker c.heard_table.result _ _
    (λ v h. h ∙ rows_heard (site_under c.args.policy.now c.args.schemes.now) c.args.event.now c.args.reader c.args.reply.now c.in-Rows.rows c.in-Rows.is) c.heard_table.ensures

pub returns-in_default : goal.returns-in_default
returns-in_default c =
    IfOk-weaker c.heard_bytes.result _ _
    (λ v h. h ∙ others_heard (site_under c.args.policy.now c.args.schemes.now) c.args.event.now c.args.reader c.args.reply.now c.in_default.not-Rows c.in_default.not-Did) c.heard_bytes.ensures

pub returns-in-Did : goal.returns-in-Did
returns-in-Did c =
    IfOk-weaker c.heard_tables.result _ _
    (λ v h. h ∙ batch_heard (site_under c.args.policy.now c.args.schemes.now) c.args.event.now c.args.reader c.args.reply.now c.deref.result.now (c.in-Did.is ∙ ap Did (sym c.deref.ensures))) c.heard_tables.ensures
