use Rattle.mls_translang.specs.Writing.{cell_text}
use Rattle.mls_translang.proofs.WritingSteps.{one_more}
use Rattle.mls_translang.proofs.writing.push_more_values.Goals as goal

pub loop-value-preserved : goal.loop-value-preserved
loop-value-preserved c =
    one_more cell_text c.args.values.now c.loop-value.value-index c.value-item.result c.loop-value-test.true c.value-item.is
    _ _ _ _ c.loop-value.invariant c.in_ok-push_str.ensures c.in_ok-push_cell.ensures
