use Rattle.mls_fragments.proofs.AgainLemmas.{settled_in}
use Rattle.mls_fragments.proofs.again.settled_connection.Goals as goal

pub returns-clause-settled : goal.returns-clause-settled
returns-clause-settled g c disk on =
    c.is_settled-settled.ensures.settled (settled_in _ _ c.is_settled-settled.ensures.value
    (c.into_connection-conn.ensures.mode disk on)) on
