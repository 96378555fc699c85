use Rattle.std.proofs.Common.{◌≡◌, ◌<◌, not, length, drop}
use Rattle.std.specs.List.{list_any, AllByRecursion}
use Rattle.mls_lattice.specs.Policy.{labels_of}
use Rattle.mls_scheme.specs.Scheme.{other_of}
use Rattle.mls_scheme.specs.Fits.{in_interval}
use Rattle.mls_updates.proofs.sets.is_any_outside.Given as goal

abbrev pub invariant-loop-set : goal.invariant-loop-set
invariant-loop-set l =
    (list_any (λ s. not (in_interval (labels_of l.policy) l.class (other_of l.scheme s.0))) (drop l.set-index l.sets)
    ≡ list_any (λ s. not (in_interval (labels_of l.policy) l.class (other_of l.scheme s.0))) l.sets)
    × AllByRecursion (λ s. s.0 < length l.scheme.others) (drop l.set-index l.sets)
