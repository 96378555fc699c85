use Rattle.std.proofs.Common.{◌++◌, ℕ, List, ap, ◌∙◌, append_assoc, codes}
use Rattle.mls_machine.proofs.PrintingSteps.{names_more}
use Rattle.mls_machine.proofs.replies.push_attributes.Goals as goal

pub loop-place-preserved : goal.loop-place-preserved
loop-place-preserved c =
    let name = c.name.result.now in
    c.in_ok-push_str-2.ensures
    ∙ ap (λ (x : List ℕ). x ++ name) (c.in_ok-push_str.ensures
    ∙ ap (λ (x : List ℕ). x ++ codes " ") c.loop-place.invariant)
    ∙ append_assoc _ (codes " ") name
    ∙ names_more c.args.attributes.now c.loop-place.place name c.args.text.now.items c.name.ensures
