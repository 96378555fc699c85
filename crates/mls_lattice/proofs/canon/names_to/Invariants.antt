use Rattle.std.proofs.Common.{◌≡◌, ◌++◌, drop, string_bytes, flat_map}
use Rattle.mls_lattice.specs.Lattice.{cats_of}
use Rattle.mls_lattice.specs.Canon.{spaced, names_of}
use Rattle.mls_lattice.proofs.canon.names_to.Given as goal

abbrev pub invariant-loop-place : goal.invariant-loop-place
invariant-loop-place l =
    string_bytes l.text ++ flat_map spaced (names_of l.place (drop l.place l.categories) (cats_of l.label.cats))
    ≡ string_bytes l.fn.text ++ flat_map spaced (names_of 0 l.categories (cats_of l.label.cats))
