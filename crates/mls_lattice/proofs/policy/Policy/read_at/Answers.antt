use Rattle.std.proofs.Common.{Ok}
use Rattle.mls_lattice.proofs.ReadsPolicyLemmas.{read_found, read_refused}
use Rattle.mls_lattice.proofs.policy.Policy.read_at.Goals as goal

pub returns-in-Ok-policy_of-clause-found : goal.returns-in-Ok-policy_of-clause-found
returns-in-Ok-policy_of-clause-found c = read_found c.args.bytes.now _
    (Ok c.in-Ok-policy_of.policy) c.in-Ok.ensures.ok c.in-Ok-policy_of.ensures

pub returns-in-Ok-clause-refused : goal.returns-in-Ok-clause-refused
returns-in-Ok-clause-refused c = rw c.from.ensures
    (read_refused c.args.bytes.now _ c.in-Err-policy_of.failed c.in-Ok.ensures.ok c.in-Err-policy_of.ensures)
