use Rattle.std.proofs.Common.{◌≡◌, true, map, take}
use Rattle.std.specs.List.{AllByRecursion}
use Rattle.mls_tables.proofs.decode.rows_from.Given as goal

abbrev pub invariant-loop-row : goal.invariant-loop-row
invariant-loop-row g l = (l.found.items ≡ map g.T.Shown.show (take l.row-index l.rows))
    × AllByRecursion (λ r. g.T.Shown.shows r ≡ true) (take l.row-index l.rows)
