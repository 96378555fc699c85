use Rattle.std.proofs.Common.{◌≡◌, ◌++◌, drop}
use Rattle.mls_filterview.specs.Fragment.{cells_from}
use Rattle.mls_filterview.proofs.splitting.add_cells.Given as goal

abbrev pub invariant-loop-attr : goal.invariant-loop-attr
invariant-loop-attr l =
    l.cells.items ++ cells_from l.attr l.place (drop l.attr l.elements) ≡ l.initial.cells.items
    ++ cells_from 0 l.place l.elements
