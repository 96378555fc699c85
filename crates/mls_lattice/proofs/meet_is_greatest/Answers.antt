use Rattle.mls_lattice.proofs.LatticeLemmas.{greatest_lower_bound}
use Rattle.mls_lattice.proofs.meet_is_greatest.Goals as goal

pub returns : goal.returns
returns c = greatest_lower_bound
