use Rattle.mls_lattice.proofs.LatticeLemmas.{order}
use Rattle.mls_lattice.proofs.dominance_is_an_order.Goals as goal

pub returns : goal.returns
returns c = order
