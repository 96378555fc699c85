use Rattle.std.proofs.Common.{drop}
use Rattle.mls_translang.specs.Blocks.{block_of}
use Rattle.mls_labeller.specs.Ranges.{Wider}
use Rattle.mls_labeller.specs.Releases.{Reaches, Multiplies}
use Rattle.mls_labeller.proofs.walking.Walk.+walk.Given as goal

abbrev pub invariant-block-loop-stmt : goal.invariant-block-loop-stmt
invariant-block-loop-stmt l =
    Reaches l.self.looped l.before.vars.items (block_of l.stmt-items) l.walked.ranges.vars.items
    (block_of (drop l.stmt-index l.stmt-items)) l.walked.told.items
    × Multiplies l.self.looped (block_of l.stmt-items)
    (block_of (drop l.stmt-index l.stmt-items)) l.walked.told.items l.walked.lists

abbrev pub invariant-turns-loop-turn : goal.invariant-turns-loop-turn
invariant-turns-loop-turn l = Wider l.before.vars.items l.ranges.vars.items
