use Rattle.std.proofs.Common.{◌≡◌, ◌+◌, drop}
use Rattle.mls_translang.specs.Tree.{statements}
use Rattle.mls_translang.specs.Blocks.{block_of}
use Rattle.mls_translang.proofs.block.+walk.Given as goal

-- the number so far and that of what is left
abbrev pub invariant-Block::statements-loop-stmt : goal.invariant-Block::statements-loop-stmt
invariant-Block::statements-loop-stmt l = l.count + statements (block_of (drop l.stmt-index l.stmt-items))
    ≡ statements (block_of l.stmt-items)
