use Rattle.std.proofs.Common.{Some, rules}
use Rattle.mls_machine.specs.Output.{table_cell}
use Rattle.mls_machine.proofs.TableSteps.{cells_more}
use Rattle.mls_machine.proofs.table.push_key_cells.Goals as goal

pub loop-value-preserved : goal.loop-value-preserved
loop-value-preserved c =
    cells_more (λ v. table_cell c.args.policy.now.labels c.args.class
    (Some v)) c.args.key.now c.loop-value.value-index c.value-item.result
    c.args.cells.now.items c.loop-value.cells.items c.push.new.self.items c.loop-value-test.true c.value-item.is c.loop-value.invariant (search rules)
