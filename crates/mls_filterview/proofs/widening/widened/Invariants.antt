-- proofs/widening/widened/Invariants.antt
use Rattle.std.proofs.Common.{◌≡◌, ◌++◌, map}
use Rattle.std.specs.BTreeMap.{IsOrdered}
use Rattle.mls_scheme.specs.Table.{place_cmp}
use Rattle.mls_filterview.specs.Widen.{widened_entry}
use Rattle.mls_filterview.proofs.widening.widened.Given as goal

abbrev pub invariant-loop-row : goal.invariant-loop-row
invariant-loop-row l = record {
  entries : l.wide.entries ++ map (widened_entry l.count) l.row-iterator.rest.items
      ≡ map (widened_entry l.count) l.fn.rows.entries;
  ordered : IsOrdered place_cmp l.wide;
}
