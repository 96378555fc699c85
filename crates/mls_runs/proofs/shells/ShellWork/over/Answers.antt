use Rattle.std.proofs.Common.{refl}
use Rattle.mls_runs.proofs.shells.ShellWork.over.Goals as goal

pub returns-clause-access : goal.returns-clause-access
returns-clause-access g c =
    let k = c.shell_over_base.ensures.access in (_, (k.turns, k.lines, refl), k.permitted)
