use Rattle.std.proofs.Common.{rules}
use Rattle.mls_lattice.proofs.PolicyReadingLemmas.{interval-other}
use Rattle.mls_lattice.proofs.users.interval_of.Goals.{in_default-via-then-items-lt2, in_default-via-else-items-lt2+else-items-lt3}
use Rattle.mls_lattice.proofs.users.interval_of.Goals as goal

pub returns-in_default : goal.returns-in_default
returns-in_default c = interval-other _ c.args.items.now
    (elim c.in_default.branch [ in_default-via-then-items-lt2 w ↦ search rules | in_default-via-else-items-lt2+else-items-lt3 w ↦ search rules ])
