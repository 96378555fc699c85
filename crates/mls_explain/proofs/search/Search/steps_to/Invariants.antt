use Rattle.std.proofs.Common.{◌≡◌, ◌++◌, take}
use Rattle.mls_explain.specs.Search.{limited}
use Rattle.mls_explain.proofs.search.Search.steps_to.Given as goal

abbrev pub invariant-loop-step : goal.invariant-loop-step
invariant-loop-step l = record {
  left : l.self.left.items ≡ l.initial.self.left.items ++ limited l.limit (take l.step-index l.steps);
  tails : l.self.tails ≡ l.initial.self.tails;
}
