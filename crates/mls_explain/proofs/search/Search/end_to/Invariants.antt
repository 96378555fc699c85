use Rattle.std.proofs.Common.{◌≡◌, ◌++◌, take}
use Rattle.mls_explain.specs.Search.{tails_of}
use Rattle.mls_explain.proofs.search.Search.end_to.Given as goal

abbrev pub invariant-loop-source : goal.invariant-loop-source
invariant-loop-source l = record {
  tails : l.self.tails.items ≡ l.initial.self.tails.items ++ tails_of l.limit (take l.source-index l.sources);
  left : l.self.left ≡ l.initial.self.left;
}
