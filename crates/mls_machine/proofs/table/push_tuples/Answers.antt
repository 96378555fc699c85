use Rattle.std.proofs.Common.{◌++◌, ℕ, ◌<◌, List, ◌∙◌, ap, subst, codes}
use Rattle.mls_scheme.specs.Tuple.{no_tuple}
use Rattle.mls_machine.specs.Output.{front, table_row}
use Rattle.mls_machine.proofs.PrintingSteps.{line_parts, one_more}
use Rattle.mls_machine.proofs.table.push_tuples.Goals as goal

pub loop-place-preserved : goal.loop-place-preserved
loop-place-preserved c =
    let first = front c.args.to.now.policy.now c.args.to.now.event.now c.args.to.now.event.now.level in
    let text = table_row c.args.to.now.policy.now c.args.widths.now c.get.result.now in
    one_more (λ x. first ++ table_row c.args.to.now.policy.now c.args.widths.now x
    ++ codes "\n") c.args.rows.now c.loop-place.place c.get.result.now no_tuple
    c.args.text.now.items c.loop-place.text.items c.push_str.new.text.items
    (subst (λ n. c.loop-place.place < n) c.len-place-end.ensures c.loop-place-test.true) c.get.ensures c.loop-place.invariant
    (c.in_ok-push_str.ensures
    ∙ ap (λ (x : List ℕ). x ++ codes "\n") (c.in_ok-push_tuple.ensures
    ∙ ap (λ (x : List ℕ). x ++ text) c.in_ok-push_front.ensures)
    ∙ line_parts c.loop-place.text.items first text (codes "\n"))
