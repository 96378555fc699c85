use Rattle.std.proofs.Common.{ap, sym, subst, ◌∙◌}
use Rattle.mls_machine.specs.declared.reply.Reply.TheVariants.{Did}
use Rattle.mls_machine.specs.Known.{answers_known}
use Rattle.mls_machine.specs.Printable.{ReplyIsKnown}
use Rattle.mls_machine.proofs.KnownLemmas.{answers-true, answers-again}
use Rattle.mls_machine.proofs.known.is_known.Goals as goal

pub returns-in-Did-clause-known : goal.returns-in-Did-clause-known
returns-in-Did-clause-known c = λ h.
    let policy = c.args.policy.now in
    let given = c.deref-in-Did.result.now in
    subst (ReplyIsKnown policy) (sym (c.in-Did.is ∙ ap Did (sym c.deref-in-Did.ensures)))
    (answers-true policy given (sym (c.are_answers_known.ensures
    ∙ ap (λ n. answers_known n given) c.label_count-in-Did.ensures.count) ∙ h))

pub returns-in-Did-clause-clean : goal.returns-in-Did-clause-clean
returns-in-Did-clause-clean c = λ h.
    let policy = c.args.policy.now in
    let given = c.deref-in-Did.result.now in
    c.are_answers_known.ensures ∙ ap (λ n. answers_known n given) c.label_count-in-Did.ensures.count
    ∙ answers-again policy given
    (subst (ReplyIsKnown policy) (c.in-Did.is ∙ ap Did (sym c.deref-in-Did.ensures)) h)
