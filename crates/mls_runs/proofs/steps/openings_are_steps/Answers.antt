use Rattle.mls_runs.proofs.StepsLemmas as steps
use Rattle.mls_runs.proofs.steps.openings_are_steps.Goals as goal

pub returns : goal.returns
returns c = steps.openings_are_steps
