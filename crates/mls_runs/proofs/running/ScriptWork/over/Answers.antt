use Rattle.std.proofs.Common.{refl}
use Rattle.mls_runs.proofs.running.ScriptWork.over.Goals as goal

pub returns-clause-access : goal.returns-clause-access
returns-clause-access g c = (_, refl, c.run_over_base.ensures.access)
