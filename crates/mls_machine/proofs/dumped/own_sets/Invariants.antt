use Rattle.std.proofs.Common.{◌≡◌, ◌++◌, drop}
use Rattle.mls_machine.specs.Dumping.{own_sets}
use Rattle.mls_machine.proofs.dumped.own_sets.Given as goal

abbrev pub invariant-loop-number : goal.invariant-loop-number
invariant-loop-number l = l.sets.items ++ own_sets l.class l.attributes l.number (drop l.number l.elements)
    ≡ own_sets l.class l.attributes 0 l.elements
