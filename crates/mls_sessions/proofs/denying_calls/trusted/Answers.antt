use Rattle.mls_sessions.proofs.StoredLemmas.{trusted_found}
use Rattle.mls_sessions.proofs.denying_calls.trusted.Goals as goal

pub returns-clause-same : goal.returns-clause-same
returns-clause-same c = trusted_found c.args.policy.now c.args.user c.trusted.result c.requires c.trusted.ensures.row
