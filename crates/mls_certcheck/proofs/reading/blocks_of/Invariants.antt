use Rattle.std.proofs.Common.{◌≡◌, ◌-◌, ◌≤◌, [], length, map}
use Rattle.mls_certcheck.specs.Reading.{blocks_at}
use Rattle.mls_certcheck.proofs.reading.blocks_of.Given as goal

-- what is left, read after what was read, is the whole
abbrev pub invariant-loop-alloc : goal.invariant-loop-alloc
invariant-loop-alloc l = record {
  within : l.place ≤ length l.lines;
  fewer : length l.blocks.items ≤ l.place;
  read : blocks_at (length l.lines - length l.blocks.items) l.blocks.items (map (λ x. x.now) l.lines) l.place
      ≡ blocks_at (length l.lines) [] (map (λ x. x.now) l.lines) 0;
}

abbrev pub decreases-loop-alloc : goal.decreases-loop-alloc
decreases-loop-alloc l = length l.lines - l.place
