use Rattle.std.proofs.Common.{sym, ◌∙◌}
use Rattle.mls_lattice.proofs.PolicyLemmas.{position-named}
use Rattle.mls_lattice.proofs.policy.Policy.label.Goals as goal

pub returns-in-Some : goal.returns-in-Some
returns-in-Some c =
    rw (← c.self.view_is, position-named c.self.inside.labels c.args.name.now, c.new.ensures, ← c.deref.ensures)
    (sym c.in-Some.is ∙ c.position_of_label.ensures.exact)

pub returns-in-None : goal.returns-in-None
returns-in-None c =
    rw (← c.self.view_is, position-named c.self.inside.labels c.args.name.now, ← c.deref.ensures) (sym c.in-None.is
    ∙ c.position_of_label.ensures.exact)
