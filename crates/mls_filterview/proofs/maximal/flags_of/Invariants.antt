use Rattle.std.proofs.Common.{◌≡◌, ◌++◌, length}
use Rattle.mls_filterview.specs.Subsumption.{AreByEntity}
use Rattle.mls_filterview.proofs.EntityLemmas.{flags}
use Rattle.mls_filterview.proofs.maximal.flags_of.Given as goal

abbrev pub invariant-loop-rest : goal.invariant-loop-rest
invariant-loop-rest l = record {
  sorted : AreByEntity l.rest;
  way : l.flags.items ++ flags l.rest ≡ flags l.rows;
}

abbrev pub decreases-loop-rest : goal.decreases-loop-rest
decreases-loop-rest l = length l.rest
