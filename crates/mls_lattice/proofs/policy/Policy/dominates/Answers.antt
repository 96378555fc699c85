use Rattle.std.proofs.Common.{subst}
use Rattle.mls_lattice.specs.Labels.{AreDistinct}
use Rattle.mls_lattice.specs.Policy.{labels_of}
use Rattle.mls_lattice.proofs.LatticeLemmas.{test-below}
use Rattle.mls_lattice.proofs.policy.Policy.dominates.Goals as goal

pub returns-clause-order : goal.returns-clause-order
returns-clause-order c = test-below _ (labels_of c.args.self.now) c.args.low c.args.high _ _ c.dominates.ensures c.value-2.ensures c.value.ensures

pub returns-clause-distinct : goal.returns-clause-distinct
returns-clause-distinct c = subst (λ p. AreDistinct (labels_of p)) c.self.view_is c.self.invariant.distinct
