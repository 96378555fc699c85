use Rattle.std.proofs.Common.{◌≡◌, ◌<◌, ◌+◌, [], length, map}
use Rattle.mls_certcheck.specs.Reading.{rows_at}
use Rattle.mls_certcheck.proofs.labels_after.rows_of.Given as goal

-- what is left, read after what was read, is the whole
abbrev pub invariant-loop-left : goal.invariant-loop-left
invariant-loop-left l = record {
  within : l.next < length l.lines;
  counted : l.next + l.left ≡ l.place + l.count;
  read : rows_at l.rows.items l.left (map (λ x. x.now) l.lines) l.next ≡ rows_at [] l.count
      (map (λ x. x.now) l.lines) l.place;
}

abbrev pub decreases-loop-left : goal.decreases-loop-left
decreases-loop-left l = l.left
