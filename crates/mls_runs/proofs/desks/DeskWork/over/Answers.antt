use Rattle.std.proofs.Common.{refl}
use Rattle.mls_runs.proofs.desks.DeskWork.over.Goals as goal

pub returns-clause-access : goal.returns-clause-access
returns-clause-access g c =
    let k = c.desk_over_base.ensures.access in (_, (k.turns, k.lines, refl), k.permitted)
