use Rattle.mls_lattice.proofs.NamedLemmas.{user_is_name}
use Rattle.mls_lattice.proofs.policy.Policy.user_name.Goals as goal

pub returns-clause-name : goal.returns-clause-name
returns-clause-name c =
    let declared = rw (← c.self.view_is) at c.requires in
    rw (c.user_name.ensures, c.deref.ensures) (user_is_name _ c.self.invariant c.args.user declared)
