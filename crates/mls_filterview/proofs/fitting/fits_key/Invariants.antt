use Rattle.std.proofs.Common.{◌≡◌, drop}
use Rattle.mls_lattice.specs.Policy.{labels_of}
use Rattle.mls_filterview.specs.Checking.{fits_value, all_zip}
use Rattle.mls_filterview.proofs.fitting.fits_key.Given as goal

abbrev pub invariant-loop-place : goal.invariant-loop-place
invariant-loop-place l =
    all_zip (fits_value (labels_of l.policy) l.class) (drop l.place l.attributes) (drop l.place l.key)
    ≡ all_zip (fits_value (labels_of l.policy) l.class) l.attributes l.key
