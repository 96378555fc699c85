use Rattle.std.proofs.Common.{◌≡◌, ◌++◌, take, map, string_bytes, flat_map}
use Rattle.mls_lattice.specs.Policy.{named}
use Rattle.mls_lattice.specs.Canon.{user_line}
use Rattle.mls_lattice.proofs.canon.users_to.Given as goal

abbrev pub invariant-loop-user : goal.invariant-loop-user
invariant-loop-user l = string_bytes l.text ≡ string_bytes l.fn.text ++ flat_map (user_line (map named l.labels))
    (take l.user-index l.users)
