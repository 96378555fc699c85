use Rattle.std.proofs.Common.{◌≡◌, drop}
use Rattle.std.specs.List.{list_all}
use Rattle.mls_lattice.specs.Policy.{labels_of}
use Rattle.mls_scheme.specs.Fits.{in_interval}
use Rattle.mls_updates.proofs.interval.in_intervals.Given as goal

abbrev pub invariant-loop-place : goal.invariant-loop-place
invariant-loop-place l =
    list_all (in_interval (labels_of l.policy) l.class) (drop l.place l.attributes)
    ≡ list_all (in_interval (labels_of l.policy) l.class) l.attributes
