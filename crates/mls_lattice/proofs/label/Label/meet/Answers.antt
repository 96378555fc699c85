use Rattle.std.proofs.Common.{refl}
use Rattle.mls_lattice.proofs.CategoryLemmas.{cats_of-bit_and}
use Rattle.mls_lattice.proofs.label.Label.meet.Goals as goal

pub returns : goal.returns
returns c = rw (c.min.ensures, cats_of-bit_and c.args.self.cats c.args.other.cats) refl
