use Rattle.std.proofs.Common.{sym, ◌∙◌}
use Rattle.mls_lattice.specs.Policy.{labels_of}
use Rattle.mls_updates.proofs.DecidingLemmas.{drop_passed}
use Rattle.mls_updates.proofs.deciding.drop_outcome.Goals as goal

pub returns : goal.returns
returns c = λ scheme es there.
    drop_passed (labels_of c.args.policy.now) scheme c.args.place.now.class c.args.place.now.key_class es
    (there ∙ c.if-not-found.false) (sym c.if-not-dominates.ensures.order)
