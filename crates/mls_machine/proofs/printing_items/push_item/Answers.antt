use Rattle.std.proofs.Common.{◌++◌, ℕ, List, ap, ◌∙◌, codes}
use Rattle.mls_translang.specs.Writing.{cell_text}
use Rattle.mls_machine.specs.Output.{front}
use Rattle.mls_machine.proofs.PrintingSteps.{item_parts}
use Rattle.mls_machine.proofs.printing_items.push_item.Goals as goal

pub returns : goal.returns
returns c =
    let cell = cell_text c.args.value.now in
    c.in_ok-push_str-2.ensures
    ∙ ap (λ (x : List ℕ). x ++ codes "\n")
    (c.in_ok-push_cell.ensures ∙ ap (λ (x : List ℕ). x ++ cell) (c.in_ok-push_str.ensures
    ∙ ap (λ (x : List ℕ). x ++ c.args.deed.now) c.in_ok-push_front.ensures))
    ∙ item_parts c.args.text.now.items (front c.args.to.now.policy.now c.args.to.now.event.now c.args.label) c.args.deed.now cell (codes "\n")
