use Rattle.std.proofs.Common.{◌≡◌, ◌++◌, drop}
use Rattle.std.specs.BTreeMap.{get}
use Rattle.mls_filterview.specs.Assembly.{cell_place_cmp, elements_from}
use Rattle.mls_filterview.specs.Fragment.{place_of_node}
use Rattle.mls_filterview.proofs.assembly.row_of.Given as goal

abbrev pub invariant-loop-attr : goal.invariant-loop-attr
invariant-loop-attr l = record {
  key : l.cell_place.0.key ≡ l.fn.node.key;
  key_class : l.cell_place.0.key_class ≡ l.fn.node.key_class;
  elements : l.elements.items ++ elements_from (get cell_place_cmp l.values) (place_of_node l.fn.node) l.attr
      (drop l.attr l.fn.node.pattern) ≡ elements_from (get cell_place_cmp l.values)
      (place_of_node l.fn.node) 0 l.fn.node.pattern;
}
