use Rattle.std.proofs.Common.{◌++◌, ℕ, List, ◌∙◌, ap, codes, Some}
use Rattle.mls_lattice.specs.Canon.{label_name}
use Rattle.mls_translang.specs.Writing.{cell_text}
use Rattle.mls_machine.specs.Output.{cell_entry}
use Rattle.mls_machine.proofs.PrintingSteps.{cell_parts, one_more}
use Rattle.mls_machine.proofs.printing_rows.push_key.Goals as goal

pub loop-value-preserved : goal.loop-value-preserved
loop-value-preserved c =
    let name = label_name c.args.policy.now.labels c.args.class in
    one_more (λ v. cell_entry c.args.policy.now.labels c.args.class
    (Some v)) c.args.key.now c.loop-value.value-index c.value-item.result c.value-item.result
    c.args.text.now.items c.loop-value.text.items c.push_class.new.text.items c.loop-value-test.true c.value-item.is c.loop-value.invariant
    (c.in_ok-push_class.ensures
    ∙ ap (λ (x : List ℕ). x ++ codes " " ++ name ++ codes " | ") c.in_ok-push_value.ensures
    ∙ cell_parts c.loop-value.text.items (cell_text (Some c.value-item.result)) (codes " ") name (codes " | "))
