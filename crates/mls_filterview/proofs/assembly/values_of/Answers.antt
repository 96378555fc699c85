use Rattle.mls_filterview.proofs.AssemblyLemmas.{values_more}
use Rattle.mls_filterview.proofs.assembly.values_of.Goals as goal

pub loop-cell-preserved : goal.loop-cell-preserved
loop-cell-preserved c = values_more c.loop-cell.yielded c.in-Some.cell _ _ c.loop-cell.invariant c.in_ok-put_value.ensures.updates.0
