use Rattle.mls_lattice.specs.Policy.{IsTrusted}
use Rattle.mls_lattice.proofs.EachLemmas.{all_at}
use Rattle.mls_lattice.proofs.policy.Policy.trusted.Goals as goal

pub returns-clause-ordered : goal.returns-clause-ordered
returns-clause-ordered c =
    let declared = rw (← c.self.view_is) at c.requires in
    rw (c.deref.ensures, c.index.ensures, ← c.self.view_is)
    (all_at (IsTrusted _) c.self.inside.users c.args.user c.index-deref-index.result declared c.self.invariant.trusted)
