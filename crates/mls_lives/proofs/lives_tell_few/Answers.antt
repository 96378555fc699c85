use Rattle.mls_lives.proofs.LifeLemmas.{runs_tell, calls_multiply}
use Rattle.mls_lives.proofs.HistoryLemmas.{histories_tell, history_calls_multiply}
use Rattle.mls_lives.proofs.lives_tell_few.Goals as goal

pub returns-clause-runs : goal.returns-clause-runs
returns-clause-runs c = runs_tell

pub returns-clause-calls : goal.returns-clause-calls
returns-clause-calls c = calls_multiply

pub returns-clause-histories : goal.returns-clause-histories
returns-clause-histories c = histories_tell

pub returns-clause-history_calls : goal.returns-clause-history_calls
returns-clause-history_calls c = history_calls_multiply
