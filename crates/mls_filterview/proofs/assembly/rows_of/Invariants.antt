use Rattle.std.specs.BTreeMap.{get, IsOrdered}
use Rattle.mls_scheme.specs.Table.{place_cmp}
use Rattle.mls_filterview.specs.Assembly.{cell_place_cmp, AreRows}
use Rattle.mls_filterview.proofs.assembly.rows_of.Given as goal

abbrev pub invariant-loop-node : goal.invariant-loop-node
invariant-loop-node l = record {
  rows : AreRows (get cell_place_cmp l.values) l.yielded (get place_cmp l.rows);
  ordered : IsOrdered place_cmp l.rows;
}
