use Rattle.std.proofs.Common.{◌≡◌, ◌+◌, drop}
use Rattle.mls_translang.specs.Tree.{statements}
use Rattle.mls_translang.specs.Blocks.{block_of}
use Rattle.mls_certcheck.specs.Points.{last}
use Rattle.mls_certcheck.proofs.keeping.last_number.Given as goal

-- the last of what is left, from here, is the last of all
abbrev pub invariant-loop-stmt : goal.invariant-loop-stmt
invariant-loop-stmt l = record {
  number : l.next + statements (block_of (drop l.stmt-index l.stmt-items)) ≡ l.first + statements
      (block_of l.stmt-items);
  last : last l.end l.next (block_of (drop l.stmt-index l.stmt-items)) ≡ last l.before l.first (block_of l.stmt-items);
}
