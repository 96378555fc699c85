use Rattle.std.proofs.Common.{length, sym, ap, ◌∙◌, subst}
use Rattle.std.proofs.lemmas.Result.{IfOk-weaker}
use Rattle.mls_lattice.specs.Policy.{labels_of}
use Rattle.mls_audit.specs.Entry.{visible}
use Rattle.mls_sessions.proofs.StepLemmas.{AreBelow, entries_known, visible_known}
use Rattle.mls_sessions.proofs.looking.seen_of.Goals as goal

pub visible-requires-clause-entries : goal.visible-requires-clause-entries
visible-requires-clause-entries c =
    subst (AreBelow (length c.args.policy.now.labels)) (sym c.deref.ensures.value) c.in_ok-entries.ensures.known

pub returns-clause-known : goal.returns-clause-known
returns-clause-known c =
    IfOk-weaker c.visible.result _ _
    (λ v h. subst (AreBelow (length c.args.policy.now.labels))
    (sym (h ∙ ap (visible (labels_of c.args.policy.now) c.args.label) (c.deref.ensures.value
    ∙ c.in_ok-entries.ensures.exact)))
    (visible_known (length c.args.policy.now.labels) (labels_of c.args.policy.now) c.args.label _
    (entries_known (length c.args.policy.now.labels) c.args.strings.now)))
    c.visible.ensures
