use Rattle.std.proofs.Common.{◌≡◌, drop}
use Rattle.mls_lattice.specs.Policy.{labels_of}
use Rattle.mls_filterview.specs.Checking.{fits_element, all_zip}
use Rattle.mls_filterview.proofs.fitting.fits_others.Given as goal

abbrev pub invariant-loop-place : goal.invariant-loop-place
invariant-loop-place l =
    all_zip (fits_element (labels_of l.policy)) (drop l.place l.attributes) (drop l.place l.elements)
    ≡ all_zip (fits_element (labels_of l.policy)) l.attributes l.elements
