use Rattle.std.proofs.Common.{◌≡◌, ◌++◌, take, string_bytes, flat_map}
use Rattle.mls_lattice.specs.Canon.{level_line}
use Rattle.mls_lattice.proofs.canon.levels_to.Given as goal

abbrev pub invariant-loop-level : goal.invariant-loop-level
invariant-loop-level l = (string_bytes l.text ≡ string_bytes l.fn.text ++ flat_map level_line
    (take l.level-index l.levels))
