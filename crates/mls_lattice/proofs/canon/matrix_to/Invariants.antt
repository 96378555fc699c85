use Rattle.std.proofs.Common.{◌≡◌, ◌++◌, take, string_bytes, flat_map}
use Rattle.mls_lattice.specs.Canon.{right_line}
use Rattle.mls_lattice.proofs.canon.matrix_to.Given as goal

abbrev pub invariant-loop-right : goal.invariant-loop-right
invariant-loop-right l = string_bytes l.text ≡ string_bytes l.fn.text ++ flat_map (right_line l.users)
    (take l.right-index l.matrix)
