use Rattle.std.proofs.Common.{◌∙◌, sym}
use Rattle.mls_filterview.proofs.EntitySteps.{same_element-is, has_element_at-here}
use Rattle.mls_filterview.proofs.entity_rules.has_element_at.Goals as goal

pub returns-in-Some : goal.returns-in-Some
returns-in-Some c =
    same_element-is c.args.element.now c.in-Some.other.now c.same.result c.same.ensures
    ∙ sym (has_element_at-here c.args.element.now c.in-Some.other.now c.args.elements.now c.args.place c.in-Some.ensures.lookup.3.0 c.in-Some.ensures.lookup.1)
