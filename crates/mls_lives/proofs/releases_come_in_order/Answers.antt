use Rattle.mls_lives.proofs.ReleasingLemmas.{told_in_order, releases_come}
use Rattle.mls_lives.proofs.releases_come_in_order.Goals as goal

pub returns-clause-told : goal.returns-clause-told
returns-clause-told c = told_in_order

pub returns-clause-steps : goal.returns-clause-steps
returns-clause-steps c = releases_come
