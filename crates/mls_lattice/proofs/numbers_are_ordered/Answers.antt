use Rattle.mls_lattice.proofs.LatticeLemmas.{by_number}
use Rattle.mls_lattice.proofs.numbers_are_ordered.Goals as goal

pub returns : goal.returns
returns c = by_number
