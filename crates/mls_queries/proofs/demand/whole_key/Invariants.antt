use Rattle.std.proofs.Common.{◌≡◌, length}
use Rattle.std.specs.List.{AllByRecursion}
use Rattle.mls_scheme.specs.Spelling.{HasSpelling}
use Rattle.mls_queries.proofs.DemandLemmas.{Demands}
use Rattle.mls_queries.proofs.demand.whole_key.Given as goal

abbrev pub invariant-loop-place : goal.invariant-loop-place
invariant-loop-place l = record {
  spelled : AllByRecursion HasSpelling l.key.items;
  long : length l.key.items ≡ l.place;
  demands : Demands l.test (length l.scheme.keys) l.place l.key.items;
}
