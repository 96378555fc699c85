use Rattle.std.proofs.Common.{◌∙◌, ap, sym}
use Rattle.std.proofs.lemmas.Result.{IfOk-weaker}
use Rattle.mls_machine.specs.declared.reply.Reply.TheVariants.{Dumped, Entries, Did}
use Rattle.mls_machine.specs.Under.{site_under}
use Rattle.mls_machine.proofs.PrintingSteps.{rows_printed, dump_printed, entries_printed, ran_printed, batch_printed}
use Rattle.mls_machine.proofs.replies.reply_bytes.Goals as goal

pub returns-in-Rows : goal.returns-in-Rows
returns-in-Rows c =
    IfOk-weaker c.view_bytes.result _ _
    (λ v h. h ∙ rows_printed (site_under c.args.policy.now c.args.schemes.now) c.args.event.now c.args.reply.now c.in-Rows.rows c.in-Rows.is) c.view_bytes.ensures

pub returns-in-Entries : goal.returns-in-Entries
returns-in-Entries c =
    IfOk-weaker c.audit_bytes.result _ _
    (λ v h. h ∙ entries_printed (site_under c.args.policy.now c.args.schemes.now) c.args.event.now c.args.reply.now c.deref-in-Entries.result.now (c.in-Entries.is ∙ ap Entries (sym c.deref-in-Entries.ensures))) c.audit_bytes.ensures

pub returns-in-Ran : goal.returns-in-Ran
returns-in-Ran c =
    IfOk-weaker c.ran_bytes.result _ _
    (λ v h. h ∙ ran_printed (site_under c.args.policy.now c.args.schemes.now) c.args.event.now c.args.reply.now c.in-Ran.run' c.in-Ran.is) c.ran_bytes.ensures

pub returns-in-Dumped : goal.returns-in-Dumped
returns-in-Dumped c =
    IfOk-weaker c.dump_bytes.result _ _
    (λ v h. h ∙ dump_printed (site_under c.args.policy.now c.args.schemes.now) c.args.event.now c.requires.session c.args.reply.now c.deref.result.now (c.in-Dumped.is ∙ ap Dumped (sym c.deref.ensures))) c.dump_bytes.ensures

pub returns-in-Did : goal.returns-in-Did
returns-in-Did c =
    IfOk-weaker c.batch_bytes.result _ _
    (λ v h. h ∙ batch_printed (site_under c.args.policy.now c.args.schemes.now) c.args.event.now c.args.reply.now c.deref-in-Did.result.now (c.in-Did.is ∙ ap Did (sym c.deref-in-Did.ensures))) c.batch_bytes.ensures
