use Rattle.mls_machine.proofs.DenyingLemmas.{clearance_found}
use Rattle.mls_sessions.proofs.denying.clearance.Goals as goal

pub returns-clause-same : goal.returns-clause-same
returns-clause-same c = clearance_found c.args.policy.now c.args.user c.clearance.result c.requires c.clearance.ensures.row
