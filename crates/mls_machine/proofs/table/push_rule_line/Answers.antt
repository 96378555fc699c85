use Rattle.std.proofs.Common.{◌++◌, ℕ, List, ◌∙◌, ap, codes, flat_map}
use Rattle.mls_tokens.specs.Table.{ruled}
use Rattle.mls_machine.specs.Output.{front}
use Rattle.mls_machine.proofs.PrintingSteps.{item_parts}
use Rattle.mls_machine.proofs.table.push_rule_line.Goals as goal

pub returns : goal.returns
returns c =
    let dashes = flat_map ruled c.args.widths.now in
    c.in_ok-push_str-2.ensures
    ∙ ap (λ (x : List ℕ). x ++ codes "\n")
    (c.in_ok-push_str.ensures ∙ ap (λ (x : List ℕ). x ++ codes "-----") (c.in_ok-push_rule.ensures
    ∙ ap (λ (x : List ℕ). x ++ dashes) c.in_ok-push_front.ensures))
    ∙ item_parts c.args.text.now.items (front c.args.to.now.policy.now c.args.to.now.event.now c.args.to.now.event.now.level) dashes (codes "-----") (codes "\n")
