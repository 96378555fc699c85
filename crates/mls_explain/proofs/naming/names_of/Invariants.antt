use Rattle.std.proofs.Common.{◌≡◌, take, codes, ◌++◌, [], string_bytes, if◌then◌else◌, flat_map}
use Rattle.mls_lattice.specs.Lattice.{pair_of}
use Rattle.mls_explain.specs.Telling.{is_named}
use Rattle.mls_explain.proofs.naming.names_of.Given as goal

-- of the labels so far
abbrev pub invariant-loop-place : goal.invariant-loop-place
invariant-loop-place l = string_bytes l.text
    ≡ flat_map (λ d. if is_named l.exact (pair_of l.label) d.value then codes " " ++ d.name else [])
    (take l.place l.policy.labels)
