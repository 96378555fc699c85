-- Inner: no public contract names these. Tuples whose classes are declared.
use Rattle.std.specs.Prelude.{ℕ, Bool, ◌&&◌, nat_lt}
use Rattle.mls_lattice.specs.Labels.{below}
use Rattle.mls_scheme.specs.declared.tuple.Tuple.{Tuple}
use Rattle.mls_filterview.specs.Checking.{are_declared}

-- the classes of a tuple are below count
abbrev pub has_known : ℕ → Tuple → Bool
has_known count t = nat_lt t.key_class count && are_declared count t.elements
