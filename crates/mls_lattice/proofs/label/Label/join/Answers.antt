use Rattle.std.proofs.Common.{refl}
use Rattle.mls_lattice.proofs.CategoryLemmas.{cats_of-bit_or}
use Rattle.mls_lattice.proofs.label.Label.join.Goals as goal

pub returns : goal.returns
returns c = rw (c.max.ensures, cats_of-bit_or c.args.self.cats c.args.other.cats) refl
