use Rattle.std.proofs.Common.{◌≡◌, length}
use Rattle.mls_labeller.specs.Ranges.{Wider}
use Rattle.mls_labeller.proofs.ranges.Ranges.joined.Given as goal

abbrev pub invariant-loop-place : goal.invariant-loop-place
invariant-loop-place l = record {
  count : length l.vars.items ≡ l.place;
  these : Wider l.self.vars.items l.vars.items;
  those : Wider l.others.vars.items l.vars.items;
}
