use Rattle.mls_lattice.proofs.LatticeLemmas.{least_upper_bound}
use Rattle.mls_lattice.proofs.join_is_least.Goals as goal

pub returns : goal.returns
returns c = least_upper_bound
