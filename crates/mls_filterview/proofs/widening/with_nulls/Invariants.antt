-- proofs/widening/with_nulls/Invariants.antt
use Rattle.std.proofs.Common.{◌≡◌, ◌++◌}
use Rattle.mls_filterview.specs.Widen.{nulls}
use Rattle.mls_filterview.proofs.widening.with_nulls.Given as goal

abbrev pub invariant-loop : goal.invariant-loop
invariant-loop l = l.wide.items ≡ l.fn.elements ++ nulls l.counter l.class
