use Rattle.mls_lattice.proofs.ExtendingLemmas.{one}
use Rattle.mls_lattice.proofs.old_labels_are_one.Goals as goal

pub returns : goal.returns
returns c = one
