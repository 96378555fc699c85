use Rattle.std.proofs.Common.{◌≡◌, drop, map}
use Rattle.mls_lattice.specs.Policy.{right_of}
use Rattle.mls_lattice.specs.Known.{KnowsRights}
use Rattle.mls_lattice.specs.PolicyReading.{more_rights}
use Rattle.mls_lattice.proofs.matrix.rights_to.Given as goal

abbrev pub invariant-loop-object : goal.invariant-loop-object
invariant-loop-object l =
    (more_rights l.matrix.items (map (right_of l.user l.modes) (drop l.object-index l.objects))
    ≡ more_rights l.initial.matrix.items (map (right_of l.user l.modes) l.objects))
    × KnowsRights l.known l.matrix.items
