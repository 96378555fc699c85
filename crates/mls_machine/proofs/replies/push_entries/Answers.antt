use Rattle.std.proofs.Common.{◌++◌, ℕ, List, ◌∙◌, ap, codes}
use Rattle.mls_machine.specs.Output.{front, entry_text}
use Rattle.mls_machine.proofs.PrintingSteps.{line_parts, one_more}
use Rattle.mls_machine.proofs.replies.push_entries.Goals as goal

pub loop-entry-preserved : goal.loop-entry-preserved
loop-entry-preserved c =
    let first = front c.args.to.now.policy.now c.args.to.now.event.now c.args.to.now.event.now.level in
    let text = entry_text c.args.to.now.policy.now c.entry-item.result in
    one_more (λ x. first ++ entry_text c.args.to.now.policy.now x
    ++ codes "\n") c.args.entries.now c.loop-entry.entry-index c.entry-item.result c.entry-item.result
    c.args.text.now.items c.loop-entry.text.items c.push_str.new.text.items c.loop-entry-test.true c.entry-item.is c.loop-entry.invariant
    (c.in_ok-push_str.ensures
    ∙ ap (λ (x : List ℕ). x ++ codes "\n") (c.in_ok-push_entry.ensures
    ∙ ap (λ (x : List ℕ). x ++ text) c.in_ok-push_front.ensures)
    ∙ line_parts c.loop-entry.text.items first text (codes "\n"))
