use Rattle.std.proofs.Common.{◌≡◌, ◌<◌, filter}
use Rattle.std.specs.List.{AllByRecursion}
use Rattle.mls_lattice.specs.Labels.{below}
use Rattle.mls_lattice.specs.Policy.{labels_of}
use Rattle.mls_filterview.specs.Reach.{numbers}
use Rattle.mls_filterview.proofs.viewing.low_labels.Given as goal

abbrev pub invariant-loop-number : goal.invariant-loop-number
invariant-loop-number l = record {
  labels : l.labels.items ≡ filter (λ m. below (labels_of l.policy) m l.label) (numbers l.number);
  few : AllByRecursion (λ m. m < 64) l.labels.items;
}
