use Rattle.std.proofs.Common.{◌≡◌, ◌++◌, take}
use Rattle.mls_filterview.specs.Reach.{of_class}
use Rattle.mls_filterview.proofs.reach.push_class.Given as goal

abbrev pub invariant-loop-row : goal.invariant-loop-row
invariant-loop-row l = l.tuples.items ≡ l.fn.tuples.items ++ of_class (take l.row-index l.rows) l.class
