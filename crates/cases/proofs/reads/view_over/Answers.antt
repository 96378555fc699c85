use Rattle.std.proofs.Common.{arith, refl}
use Rattle.mls_lattice.specs.Policy.{labels_of}
use Rattle.cases.proofs.AskedLemmas.{fails_below}
use Rattle.cases.proofs.reads.view_over.Goals as goal

pub returns : goal.returns
returns c =
    fails_below (labels_of c.args.policy.now) c.args.level c.view.new.base.broken c.view.result
    c.view.ensures.access c.view.ensures.read.call
    (λ some. (refl, some)) (λ h. (let none = c.requires.fresh in let some = h.1 in omega (arith, none, some)))
