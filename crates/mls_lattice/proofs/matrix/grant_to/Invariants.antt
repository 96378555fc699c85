use Rattle.std.proofs.Common.{◌≡◌, drop, map, flat_map}
use Rattle.mls_lattice.specs.Policy.{right_of, rights_of}
use Rattle.mls_lattice.specs.Known.{KnowsRights}
use Rattle.mls_lattice.specs.PolicyReading.{more_rights}
use Rattle.mls_lattice.proofs.matrix.grant_to.Given as goal

abbrev pub invariant-loop-user : goal.invariant-loop-user
invariant-loop-user l =
    (more_rights l.matrix.items (flat_map (λ user. map (right_of user l.grant.modes) l.grant.objects)
    (drop l.user-index l.user-items)) ≡ more_rights l.initial.matrix.items (rights_of l.grant))
    × KnowsRights l.known l.matrix.items
