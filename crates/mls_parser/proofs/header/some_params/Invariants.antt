use Rattle.std.proofs.Common.{◌≤◌, ◌-◌, [], length}
use Rattle.mls_parser.specs.ReadTx.{next_param}
use Rattle.mls_parser.proofs.ItemSteps.{ItemsSoFar}
use Rattle.mls_parser.proofs.header.some_params.Given as goal

abbrev pub invariant-loop-params : goal.invariant-loop-params
invariant-loop-params l = record {
  so_far : ItemsSoFar (next_param l.policy) ([], 0) l.fn.reader (l.params, l.count) l.reader;
  few : length l.params ≤ l.count;
  most : l.count ≤ 64;
}

abbrev pub decreases-loop-params : goal.decreases-loop-params
decreases-loop-params l = 64 - l.count
