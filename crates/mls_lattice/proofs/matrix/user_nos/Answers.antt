use Rattle.std.proofs.Common.{refl}
use Rattle.mls_lattice.proofs.matrix.user_nos.Goals as goal

pub loop-value-init : goal.loop-value-init
loop-value-init c = rw c.new-named.ensures.items refl
