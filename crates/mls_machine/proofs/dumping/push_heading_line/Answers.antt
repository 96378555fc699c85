use Rattle.std.proofs.Common.{◌++◌, ℕ, List, ◌∙◌, ap, codes}
use Rattle.mls_scheme.specs.Scheme.{scheme_of}
use Rattle.mls_machine.specs.Output.{front, dump_heading}
use Rattle.mls_machine.proofs.PrintingSteps.{line_parts}
use Rattle.mls_machine.proofs.dumping.push_heading_line.Goals as goal

pub returns : goal.returns
returns c =
    c.in_ok-push_str.ensures
    ∙ ap (λ (x : List ℕ). x ++ codes "\n") (c.in_ok-push_heading.ensures ∙ (λ i. c.in_ok-push_front.ensures i
    ++ dump_heading (c.scheme.ensures.row i)))
    ∙ line_parts c.args.text.now.items (front c.args.to.now.policy.now c.args.to.now.event.now c.args.to.now.event.now.level) (dump_heading (scheme_of c.args.to.now.schemes.now c.args.relation)) (codes "\n")
