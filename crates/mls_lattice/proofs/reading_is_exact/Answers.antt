use Rattle.mls_lattice.proofs.ReadsPolicyLemmas.{exact}
use Rattle.mls_lattice.proofs.reading_is_exact.Goals as goal

pub returns : goal.returns
returns c = exact
