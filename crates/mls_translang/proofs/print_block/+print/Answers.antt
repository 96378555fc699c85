use Rattle.mls_translang.specs.Blocks.{block_of}
use Rattle.mls_translang.proofs.BlockLemmas.{left_step}
use Rattle.mls_translang.proofs.print_block.+print.Goals as goal

pub block_to-loop-stmt-preserved : goal.block_to-loop-stmt-preserved
block_to-loop-stmt-preserved t c =
    let xs = c.deref-stmt-items.result.now in
    left_step xs c.loop-stmt.stmt-index c.stmt-item.result c.stmt-item.is c.loop-stmt-test.true c.args.names.now c.loop-stmt.out c.stmt_to.new.out c.args.out.now (block_of xs) c.in_ok-stmt_to.ensures c.loop-stmt.invariant
