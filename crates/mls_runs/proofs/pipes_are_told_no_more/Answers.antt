use Rattle.mls_runs.proofs.ShellLemmas.{pipes_told}
use Rattle.mls_runs.proofs.pipes_are_told_no_more.Goals as goal

pub returns : goal.returns
returns g c = pipes_told g.X.Explains.explaining
