use Rattle.std.proofs.Common.{sym, ap, ◌∙◌, length}
use Rattle.mls_filterview.specs.Checking.{are_declared}
use Rattle.mls_filterview.proofs.ContentLemmas.{declared-true}
use Rattle.mls_filterview.proofs.recovering.is_placed.Goals as goal

pub greatest_class-requires-clause-elements : goal.greatest_class-requires-clause-elements
greatest_class-requires-clause-elements c =
    declared-true (length c.args.policy.now.labels) c.args.elements.now
    (ap (λ n. are_declared n c.args.elements.now) (sym c.label_count-count.ensures.count)
    ∙ sym c.if-not-are_declared.ensures)
