use Rattle.std.proofs.Common.{rules}
use Rattle.mls_machine.specs.Output.{table_cell}
use Rattle.mls_machine.proofs.TableSteps.{cells_more}
use Rattle.mls_machine.proofs.table.push_element_cells.Goals as goal

pub loop-element-preserved : goal.loop-element-preserved
loop-element-preserved c =
    cells_more (λ e. table_cell c.args.policy.now.labels e.class e.value) c.args.elements.now c.loop-element.element-index c.element-item.result
    c.args.cells.now.items c.loop-element.cells.items c.push.new.self.items c.loop-element-test.true c.element-item.is c.loop-element.invariant (search rules)
