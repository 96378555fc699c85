use Rattle.std.proofs.Common.{◌≡◌, ◌+◌, ◌++◌, drop}
use Rattle.mls_translang.specs.Tree.{statements}
use Rattle.mls_translang.specs.Blocks.{block_of}
use Rattle.mls_labeller.specs.Flows.{own_slots}
use Rattle.mls_labeller.proofs.lines.own_slots.Given as goal

-- what is left, put after what was put, is the whole
abbrev pub invariant-loop-stmt : goal.invariant-loop-stmt
invariant-loop-stmt l = record {
  number : l.number + statements (block_of (drop l.stmt-index l.stmt-items)) ≡ l.first + statements
      (block_of l.stmt-items);
  notes : l.slots.items ++ own_slots l.number (block_of (drop l.stmt-index l.stmt-items)) ≡ l.initial.slots.items
      ++ own_slots l.first (block_of l.stmt-items);
}
