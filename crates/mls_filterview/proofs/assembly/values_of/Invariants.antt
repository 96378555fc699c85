use Rattle.std.specs.BTreeMap.{get}
use Rattle.mls_filterview.specs.Assembly.{cell_place_cmp, AreValues}
use Rattle.mls_filterview.proofs.assembly.values_of.Given as goal

abbrev pub invariant-loop-cell : goal.invariant-loop-cell
invariant-loop-cell l = AreValues l.yielded (get cell_place_cmp l.values)
