use Rattle.std.proofs.Common.{◌≡◌, ◌+◌, ◌*◌, ◌≤◌, [], ◌∷◌, drop, take}
use Rattle.mls_translang.specs.Tree.{statements}
use Rattle.mls_translang.specs.Blocks.{block_of}
use Rattle.mls_trusted.specs.Ends.{Between, Accesses}
use Rattle.mls_trusted.specs.Frames.{around_of, MayRunBlock, run_of, rows_of, IsFrameRun}
use Rattle.mls_trusted.proofs.block.+run.Given as goal

-- so far the statements up to here have run
abbrev pub invariant-run_block-loop-stmt : goal.invariant-run_block-loop-stmt
invariant-run_block-loop-stmt g l = record {
  clean : (g.B.Base.seen l.base).is_clean → (g.B.Base.seen l.fn.base).is_clean;
  count : (g.B.Base.seen l.fn.base).failures ≤ (g.B.Base.seen l.base).failures;
  about : (g.B.Base.seen l.base).is_clean → (g.B.Base.seen l.base).about ≡ (g.B.Base.seen l.fn.base).about;
  access : Accesses l.call g.B.Base.seen (block_of l.stmt-items) l.fn.base l.base;
  between : Between l.call (block_of l.stmt-items) → Between l.call (block_of (drop l.stmt-index l.stmt-items));
  ran : IsFrameRun l.call g.B.Base.seen (run_of l.call (block_of (take l.stmt-index l.stmt-items))
      (around_of l.fn.frame)) l.fn.base l.base l.fn.frame l.frame;
  may : MayRunBlock l.call (around_of l.fn.frame) (block_of (drop l.stmt-index l.stmt-items));
  size : statements (block_of (drop l.stmt-index l.stmt-items)) ≤ statements (block_of l.stmt-items);
}

-- so far the body has run at the rows before this place
abbrev pub invariant-run_rows-loop-place : goal.invariant-run_rows-loop-place
invariant-run_rows-loop-place g l = record {
  clean : (g.B.Base.seen l.base).is_clean → (g.B.Base.seen l.fn.base).is_clean;
  count : (g.B.Base.seen l.fn.base).failures ≤ (g.B.Base.seen l.base).failures;
  about : (g.B.Base.seen l.base).is_clean → (g.B.Base.seen l.base).about ≡ (g.B.Base.seen l.fn.base).about;
  access : Accesses l.call g.B.Base.seen l.body l.fn.base l.base;
  ran : IsFrameRun l.call g.B.Base.seen (rows_of l.call l.body (around_of l.fn.frame)
      (take l.place l.rows)) l.fn.base l.base l.fn.frame l.frame;
}

-- ---- how deep

abbrev pub decreases-run_block : goal.decreases-run_block
decreases-run_block g l = 8 * statements l.block.now + 1

abbrev pub decreases-run_branch : goal.decreases-run_branch
decreases-run_branch g l = 8 * (statements l.one.now + statements l.other.now) + 4

abbrev pub decreases-run_row : goal.decreases-run_row
decreases-run_row g l = 8 * statements l.body.now + 3

abbrev pub decreases-run_rows : goal.decreases-run_rows
decreases-run_rows g l = 8 * statements l.body.now + 4

abbrev pub decreases-run_loop : goal.decreases-run_loop
decreases-run_loop g l = 8 * statements l.body.now + 5

abbrev pub decreases-run_stmt : goal.decreases-run_stmt
decreases-run_stmt g l = 8 * statements (block_of (l.stmt.now ∷ []))
