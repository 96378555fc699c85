use Rattle.std.proofs.Common.{◌≡◌, ◌+◌, ◌*◌, ◌≤◌, [], ◌∷◌, drop}
use Rattle.mls_translang.specs.Tree.{statements}
use Rattle.mls_translang.specs.Tx.{depth}
use Rattle.mls_translang.specs.Blocks.{block_of}
use Rattle.mls_certcheck.specs.Loops.{loops_of}
use Rattle.mls_certcheck.specs.Walk.{walked_lines, block_lines}
use Rattle.mls_certcheck.proofs.lent.Here.+walk.Given as goal

-- who visits what is left, from here, visits the whole
abbrev pub invariant-block-loop-stmt : goal.invariant-block-loop-stmt
invariant-block-loop-stmt g l =
    let left = block_of (drop l.stmt-index l.stmt-items) in
    let all = block_of l.stmt-items in
    record {
      counts : l.number + statements left ≡ l.self.number + statements all;
      size : statements left ≤ statements all;
      shallow : l.self.loops.count + depth left ≤ 16;
      walk : (r : _) (w : _) → g.V.Visit.visits l.visitor (walked_lines l.self.vars l.number l.self.around l.before
          (loops_of l.self.loops) left) r w → g.V.Visit.visits l.initial.visitor (block_lines l.self all) r w;
    }

-- ---- how deep

abbrev pub decreases-block : goal.decreases-block
decreases-block g l = 4 * statements l.block.now + 1

abbrev pub decreases-stmt : goal.decreases-stmt
decreases-stmt g l = 4 * statements (block_of (l.stmt.now ∷ []))
