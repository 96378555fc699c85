use Rattle.std.proofs.Common.{◌++◌, ℕ, List, ◌∙◌, ap, codes}
use Rattle.mls_scheme.specs.declared.tuple.Tuple.{Tuple}
use Rattle.mls_machine.specs.Dumping.{dump_event}
use Rattle.mls_machine.specs.Output.{front, script_text}
use Rattle.mls_machine.specs.Under.{site_under}
use Rattle.mls_machine.proofs.PrintingSteps.{line_parts, one_more}
use Rattle.mls_machine.proofs.dumping.push_tuple_lines.Goals as goal

pub loop-tuple-preserved : goal.loop-tuple-preserved
loop-tuple-preserved c =
    let site = site_under c.args.to.now.policy.now c.args.to.now.schemes.now in
    let made : Tuple → List ℕ = λ t. script_text site
    (dump_event site c.args.to.now.event.now.session c.args.relation t) in
    let first = front c.args.to.now.policy.now c.args.to.now.event.now c.args.to.now.event.now.level in
    let text = made c.tuple-item.result in
    one_more (λ x. first ++ made x ++ codes "\n") c.args.tuples.now c.loop-tuple.tuple-index c.tuple-item.result c.tuple-item.result
    c.args.text.now.items c.loop-tuple.text.items c.push_str.new.text.items c.loop-tuple-test.true c.tuple-item.is c.loop-tuple.invariant
    (c.in_ok-push_str.ensures
    ∙ ap (λ (x : List ℕ). x ++ codes "\n") (c.in_ok-push_tuple.ensures
    ∙ ap (λ (x : List ℕ). x ++ text) c.in_ok-push_front.ensures)
    ∙ line_parts c.loop-tuple.text.items first text (codes "\n"))
