use Rattle.std.proofs.Common.{sym, ◌∙◌}
use Rattle.mls_lattice.specs.Policy.{labels_of}
use Rattle.mls_filterview.proofs.FittingSteps.{other_next}
use Rattle.mls_filterview.proofs.fitting.fits_others.Goals as goal

pub loop-place-preserved : goal.loop-place-preserved
loop-place-preserved c =
    other_next (labels_of c.args.policy.now) c.args.attributes.now c.args.elements.now c.loop-place.place c.get.result.now c.index-elements-place.result c.get.ensures c.loop-place-test.true c.index-elements-place.is (sym c.fits_element.ensures ∙ c.if-not-fits_element.false) c.loop-place.invariant
