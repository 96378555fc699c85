use Rattle.std.proofs.Common.{◌++◌, ℕ, List, ◌∙◌, ap, codes}
use Rattle.mls_machine.specs.Output.{front, table_title}
use Rattle.mls_machine.proofs.PrintingSteps.{line_parts}
use Rattle.mls_machine.proofs.table.push_title_line.Goals as goal

pub returns : goal.returns
returns c =
    let title = table_title c.args.what.now.policy.now c.args.what.now.scheme.now c.args.what.now.label c.args.what.now.query.now in
    c.in_ok-push_str.ensures
    ∙ ap (λ (x : List ℕ). x ++ codes "\n") (c.in_ok-push_asked.ensures
    ∙ ap (λ (x : List ℕ). x ++ title) c.in_ok-push_front.ensures)
    ∙ line_parts c.args.text.now.items (front c.args.to.now.policy.now c.args.to.now.event.now c.args.to.now.event.now.level) title (codes "\n")
