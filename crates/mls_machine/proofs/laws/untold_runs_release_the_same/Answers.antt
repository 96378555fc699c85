use Rattle.mls_machine.proofs.ToldLemmas.{untold_same, tests_sharp, tests_tell}
use Rattle.mls_machine.proofs.laws.untold_runs_release_the_same.Goals as goal

pub returns-clause-runs : goal.returns-clause-runs
returns-clause-runs c = untold_same

pub returns-clause-sharp : goal.returns-clause-sharp
returns-clause-sharp c = tests_sharp

pub returns-clause-told : goal.returns-clause-told
returns-clause-told c = tests_tell
