use Rattle.std.proofs.Common.{◌∙◌, sym, true, false}
use Rattle.std.proofs.lemmas.Result.{IfOk-weaker}
use Rattle.mls_machine.specs.Under.{site_under}
use Rattle.mls_machine.proofs.ShownLemmas.{plain_seen, run_seen}
use Rattle.mls_machine.proofs.shown.shown_bytes.Goals as goal

pub returns-in-Ran : goal.returns-in-Ran
returns-in-Ran c =
    IfOk-weaker c.seen_run.result _ _
    (λ v h. h ∙ run_seen (site_under c.args.policy.now c.args.schemes.now) c.args.event.now c.args.reader c.args.reply.now c.in-Ran.run' c.in-Ran.is) c.seen_run.ensures

pub returns-in_default : goal.returns-in_default
returns-in_default c =
    IfOk-weaker c.reply_bytes.result _ _
    (λ v h. h ∙ plain_seen (site_under c.args.policy.now c.args.schemes.now) c.args.event.now c.args.reader true
    (sym c.dominates.ensures.order ∙ c.if-dominates.true) c.args.reply.now c.in_default.not-Ran) c.reply_bytes.ensures

pub returns-in_default-2 : goal.returns-in_default-2
returns-in_default-2 c =
    c.new.ensures.items ∙ plain_seen (site_under c.args.policy.now c.args.schemes.now) c.args.event.now c.args.reader false (sym c.dominates.ensures.order ∙ c.if-dominates.false) c.args.reply.now c.in_default.not-Ran
