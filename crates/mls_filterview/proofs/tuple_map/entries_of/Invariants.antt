use Rattle.std.proofs.Common.{◌≡◌, ◌++◌}
use Rattle.mls_filterview.proofs.tuple_map.entries_of.Given as goal

abbrev pub invariant-loop-place : goal.invariant-loop-place
invariant-loop-place l = l.entries.items ++ l.place-iterator.rest.items ≡ l.fn.tuples.entries
