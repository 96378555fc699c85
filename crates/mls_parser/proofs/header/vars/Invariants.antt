use Rattle.std.proofs.Common.{◌≤◌, ◌-◌, [], length}
use Rattle.mls_parser.specs.ReadTx.{next_var}
use Rattle.mls_parser.proofs.HeaderSteps.{ThingsSoFar}
use Rattle.mls_parser.proofs.header.vars.Given as goal

abbrev pub invariant-loop-vars : goal.invariant-loop-vars
invariant-loop-vars l = record {
  so_far : ThingsSoFar (next_var l.params) 65 ([], 0) l.fn.reader (64 - l.count) (l.vars, l.count) l.reader;
  few : length l.vars ≤ l.count;
  most : l.count ≤ 64;
}

abbrev pub decreases-loop-vars : goal.decreases-loop-vars
decreases-loop-vars l = 64 - l.count
