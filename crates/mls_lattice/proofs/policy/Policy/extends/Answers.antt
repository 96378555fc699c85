use Rattle.mls_lattice.specs.Extending.{Extends}
use Rattle.mls_lattice.proofs.ExtendingLemmas.{some-iff}
use Rattle.mls_lattice.proofs.policy.Policy.extends.Goals as goal

pub returns : goal.returns
returns c = some-iff (Extends c.args.self.now c.args.old.now) c.in_ok-labels_before.field-0 c.is_some.result c.is_some.ensures c.in_ok-labels_before.ensures.found c.in_ok-labels_before.ensures.none
