use Rattle.std.proofs.Common.{sym, ◌∙◌}
use Rattle.mls_lattice.specs.Policy.{labels_of}
use Rattle.mls_filterview.proofs.FittingSteps.{key_next}
use Rattle.mls_filterview.proofs.fitting.fits_key.Goals as goal

pub loop-place-preserved : goal.loop-place-preserved
loop-place-preserved c =
    key_next (labels_of c.args.policy.now) c.args.class c.args.attributes.now c.args.key.now c.loop-place.place c.get.result.now c.index-key-place.result c.get.ensures c.loop-place-test.true c.index-key-place.is (sym c.fits_value.ensures ∙ c.if-not-fits_value.false) c.loop-place.invariant
