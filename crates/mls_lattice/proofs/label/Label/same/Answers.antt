use Rattle.mls_lattice.proofs.LatticeLemmas.{same_label}
use Rattle.mls_lattice.proofs.label.Label.same.Goals as goal

pub returns : goal.returns
returns c = same_label c.args.self c.args.other _ c.eq.ensures
