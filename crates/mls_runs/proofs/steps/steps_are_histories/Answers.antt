use Rattle.mls_runs.proofs.StepsLemmas as steps
use Rattle.mls_runs.proofs.steps.steps_are_histories.Goals as goal

pub returns : goal.returns
returns c = steps.steps_are_histories
