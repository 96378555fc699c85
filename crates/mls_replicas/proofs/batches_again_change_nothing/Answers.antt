use Rattle.mls_replicas.proofs.BatchLemmas.{batches_recovered}
use Rattle.mls_replicas.proofs.DoneLemmas.{done_again}
use Rattle.mls_replicas.proofs.batches_again_change_nothing.Goals as goal

pub returns-clause-tables : goal.returns-clause-tables
returns-clause-tables c = done_again

pub returns-clause-events : goal.returns-clause-events
returns-clause-events c = batches_recovered
