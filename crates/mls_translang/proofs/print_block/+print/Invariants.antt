use Rattle.std.proofs.Common.{◌+◌, ◌*◌, [], ◌∷◌, drop}
use Rattle.mls_translang.specs.Tree.{statements}
use Rattle.mls_translang.specs.Blocks.{block_of}
use Rattle.mls_translang.proofs.BlockLemmas.{IsLeft}
use Rattle.mls_translang.proofs.print_block.+print.Given as goal

-- what is left, put after what was put, is the whole
abbrev pub invariant-block_to-loop-stmt : goal.invariant-block_to-loop-stmt
invariant-block_to-loop-stmt l = IsLeft l.names (drop l.stmt-index l.stmt-items) l.out
    (block_of l.stmt-items) l.initial.out

-- ---- how deep

abbrev pub decreases-block_to : goal.decreases-block_to
decreases-block_to l = 8 * statements l.block.now + 1

abbrev pub decreases-braced_to : goal.decreases-braced_to
decreases-braced_to l = 8 * statements l.block.now + 2

abbrev pub decreases-else_to : goal.decreases-else_to
decreases-else_to l = 8 * statements l.block.now + 3

abbrev pub decreases-body_to : goal.decreases-body_to
decreases-body_to l = 8 * statements l.body.now + 3

abbrev pub decreases-if_to : goal.decreases-if_to
decreases-if_to l = 8 * (statements l.one.now + statements l.other.now) + 4

abbrev pub decreases-stmt_to : goal.decreases-stmt_to
decreases-stmt_to l = 8 * statements (block_of (l.stmt.now ∷ []))
