use Rattle.std.proofs.Common.{◌≡◌, ◌++◌, flat_map}
use Rattle.mls_filterview.specs.Fragment.{cells_of}
use Rattle.mls_filterview.proofs.splitting.cells_of.Given as goal

abbrev pub invariant-loop-place : goal.invariant-loop-place
invariant-loop-place l = l.cells.items ++ flat_map cells_of l.place-iterator ≡ flat_map cells_of l.rows.entries
