use Rattle.std.proofs.Common.{eq-eqb, eqb-true}
use Rattle.mls_lattice.proofs.CategoryLemmas.{within_by_and, and_by_within}
use Rattle.mls_lattice.proofs.label.Label.dominates.Goals as goal

pub returns-then-other-self : goal.returns-then-other-self
returns-then-other-self c = (
  λ h. record { rank = c.if-other-self.true; cats = within_by_and c.args.other.cats c.args.self.cats (eqb-true _ _ h) },
  λ d. eq-eqb _ _ (and_by_within c.args.other.cats c.args.self.cats d.cats),
)
