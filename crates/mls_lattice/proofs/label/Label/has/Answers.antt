use Rattle.mls_lattice.proofs.CategoryLemmas.{has-mask}
use Rattle.mls_lattice.proofs.label.Label.has.Goals as goal

pub returns : goal.returns
returns c = has-mask c.args.self.cats c.args.category c.requires
