use Rattle.mls_replicas.proofs.ReplicaLemmas.{replicas_alike, accepted_replicas, feeds_fed}
use Rattle.mls_replicas.proofs.replicas_agree.Goals as goal

pub returns-clause-passing : goal.returns-clause-passing
returns-clause-passing c = replicas_alike

pub returns-clause-accepted : goal.returns-clause-accepted
returns-clause-accepted c = accepted_replicas

pub returns-clause-feeds : goal.returns-clause-feeds
returns-clause-feeds c = feeds_fed
