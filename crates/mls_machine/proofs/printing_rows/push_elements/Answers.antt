use Rattle.std.proofs.Common.{◌++◌, ℕ, List, ◌∙◌, ap, codes}
use Rattle.mls_lattice.specs.Canon.{label_name}
use Rattle.mls_translang.specs.Writing.{cell_text}
use Rattle.mls_machine.specs.Output.{cell_entry}
use Rattle.mls_machine.proofs.PrintingSteps.{cell_parts, one_more}
use Rattle.mls_machine.proofs.printing_rows.push_elements.Goals as goal

pub loop-element-preserved : goal.loop-element-preserved
loop-element-preserved c =
    let name = label_name c.args.policy.now.labels c.element-item.result.class in
    one_more (λ e. cell_entry c.args.policy.now.labels e.class e.value) c.args.elements.now c.loop-element.element-index c.element-item.result c.element-item.result
    c.args.text.now.items c.loop-element.text.items c.push_class.new.text.items c.loop-element-test.true c.element-item.is c.loop-element.invariant
    (c.in_ok-push_class.ensures
    ∙ ap (λ (x : List ℕ). x ++ codes " " ++ name ++ codes " | ") c.in_ok-push_cell.ensures
    ∙ cell_parts c.loop-element.text.items (cell_text c.element-item.result.value) (codes " ") name (codes " | "))
