use Rattle.std.proofs.Common.{◌≡◌, ◌++◌, filter}
use Rattle.mls_filterview.specs.Entities.{is_before, is_behind}
use Rattle.mls_filterview.proofs.mending.put_own.Given as goal

abbrev pub invariant-loop-row : goal.invariant-loop-row
invariant-loop-row l = record {
  front : l.front.items ++ filter (is_before l.place) l.row-iterator.rest.items
      ≡ filter (is_before l.place) l.fn.rows.items;
  back : l.back.items ++ filter (is_behind l.place) l.row-iterator.rest.items
      ≡ filter (is_behind l.place) l.fn.rows.items;
}
