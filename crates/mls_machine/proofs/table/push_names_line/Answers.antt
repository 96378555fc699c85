use Rattle.std.proofs.Common.{◌++◌, ℕ, List, ◌∙◌, ap, codes}
use Rattle.mls_tokens.specs.Table.{padded}
use Rattle.mls_machine.specs.Output.{front}
use Rattle.mls_machine.proofs.PrintingSteps.{item_parts}
use Rattle.mls_machine.proofs.table.push_names_line.Goals as goal

pub returns : goal.returns
returns c =
    let cells = padded c.args.widths.now 0 c.args.names.now in
    c.in_ok-push_str-2.ensures
    ∙ ap (λ (x : List ℕ). x ++ codes "\n")
    (c.in_ok-push_str.ensures ∙ ap (λ (x : List ℕ). x ++ codes "class") (c.in_ok-push_row.ensures
    ∙ ap (λ (x : List ℕ). x ++ cells) c.in_ok-push_front.ensures))
    ∙ item_parts c.args.text.now.items (front c.args.to.now.policy.now c.args.to.now.event.now c.args.to.now.event.now.level) cells (codes "class") (codes "\n")
