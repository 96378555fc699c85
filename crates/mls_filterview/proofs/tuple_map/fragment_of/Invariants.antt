use Rattle.std.proofs.Common.{◌≡◌, ◌++◌, map, filter, flat_map}
use Rattle.mls_filterview.specs.Fragment.{node_of, cells_of, is_of_any}
use Rattle.mls_filterview.proofs.tuple_map.fragment_of.Given as goal

abbrev pub invariant-loop-place : goal.invariant-loop-place
invariant-loop-place l = record {
  nodes : l.nodes.items ++ map node_of (filter (is_of_any l.labels) l.place-iterator)
      ≡ map node_of (filter (is_of_any l.labels) l.tuples.entries);
  cells : l.cells.items ++ flat_map cells_of (filter (is_of_any l.labels) l.place-iterator) ≡ flat_map cells_of
      (filter (is_of_any l.labels) l.tuples.entries);
}
