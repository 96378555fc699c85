use Rattle.std.proofs.Common.{◌≡◌, List, ◌++◌, map}
use Rattle.std.specs.Slice.Iter.{chunks_rest, chunks_size}
use Rattle.sqlite.specs.Held.{state}
use Rattle.mls_tables.specs.declared.rows.OwnCell.{OwnCell}
use Rattle.mls_tables.specs.Rows.{cell_beside}
use Rattle.mls_tables.specs.Statements.{AddsCells}
use Rattle.mls_tables.proofs.ChangeLemmas.{IsSoFar}
use Rattle.mls_tables.proofs.OwnCells.{HasAddedSoFar}
use Rattle.mls_tables.proofs.statements.cell.add_own.Given as goal

abbrev pub invariant-loop-some : goal.invariant-loop-some
invariant-loop-some g l =
    (goal.iterator-loop-some g).can_next l.some-iterator
    × (goal.iterator-loop-some g).is_finite l.some-iterator
    × (chunks_size l.some-iterator ≡ 15)
    × ((done : List OwnCell) × (done ++ chunks_rest l.some-iterator ≡ l.cells)
    × IsSoFar (AddsCells (map (cell_beside l.node) done)) (state g.S.Store l.fn.conn) (state g.S.Store l.conn)
    × HasAddedSoFar l.node done (state g.S.Store l.fn.conn) (state g.S.Store l.conn))
