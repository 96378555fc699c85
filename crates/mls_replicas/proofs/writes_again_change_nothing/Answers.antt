use Rattle.mls_replicas.proofs.AgainLemmas.{writes_again}
use Rattle.mls_replicas.proofs.RecoveryLemmas.{recovered}
use Rattle.mls_replicas.proofs.writes_again_change_nothing.Goals as goal

pub returns-clause-tables : goal.returns-clause-tables
returns-clause-tables c = writes_again

pub returns-clause-events : goal.returns-clause-events
returns-clause-events c = recovered
