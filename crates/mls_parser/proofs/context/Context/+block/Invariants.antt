use Rattle.std.proofs.Common.{◌+◌, ◌*◌, ◌-◌}
use Rattle.mls_parser.proofs.StmtSteps.{StmtsSoFar}
use Rattle.mls_parser.proofs.context.Context.+block.Given as goal

abbrev pub decreases-stmts-loop-alloc : goal.decreases-stmts-loop-alloc
decreases-stmts-loop-alloc l = 1000 - l.count

abbrev pub invariant-stmts-loop-alloc : goal.invariant-stmts-loop-alloc
invariant-stmts-loop-alloc l = StmtsSoFar l.depth l.self l.initial.count l.fn.reader l.stmts.items l.count l.reader

-- ---- how deep

abbrev pub decreases-stmts : goal.decreases-stmts
decreases-stmts l = 9 * l.depth + 2

abbrev pub decreases-stmt : goal.decreases-stmt
decreases-stmt l = 9 * l.depth + 1

abbrev pub decreases-braced : goal.decreases-braced
decreases-braced l = 9 * l.depth + 3

abbrev pub decreases-other : goal.decreases-other
decreases-other l = 9 * l.depth + 4

abbrev pub decreases-blocks : goal.decreases-blocks
decreases-blocks l = 9 * l.depth + 5

abbrev pub decreases-if_stmt : goal.decreases-if_stmt
decreases-if_stmt l = 9 * l.depth + 6

abbrev pub decreases-body_of : goal.decreases-body_of
decreases-body_of l = 9 * l.depth + 5

abbrev pub decreases-for_stmt : goal.decreases-for_stmt
decreases-for_stmt l = 9 * l.depth + 6

abbrev pub decreases-content : goal.decreases-content
decreases-content l = 9 * l.depth + 7
