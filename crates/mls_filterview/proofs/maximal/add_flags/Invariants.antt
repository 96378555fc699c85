use Rattle.std.proofs.Common.{◌≡◌, ◌++◌, take, map}
use Rattle.mls_filterview.specs.Subsumption.{is_max_among}
use Rattle.mls_filterview.proofs.maximal.add_flags.Given as goal

abbrev pub invariant-loop-row : goal.invariant-loop-row
invariant-loop-row l = l.flags.items ≡ l.fn.flags.items ++ map (is_max_among l.rows) (take l.row-index l.rows)
