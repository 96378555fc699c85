use Rattle.std.proofs.Common.{sym}
use Rattle.mls_lattice.proofs.PolicyLemmas.{label_of-named, length-named}
use Rattle.mls_lattice.proofs.policy.Policy.value.Goals as goal

pub returns : goal.returns
returns c =
    let declared = rw (← c.self.view_is, length-named) at c.requires in
    rw (c.deref.ensures, c.index.ensures, ← c.self.view_is)
    (sym (label_of-named c.self.inside.labels c.args.label c.index-deref-index.result declared))
