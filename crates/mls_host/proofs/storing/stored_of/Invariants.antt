use Rattle.mls_host.specs.Storing.{AreStoredWith}
use Rattle.mls_host.proofs.storing.stored_of.Given as goal

abbrev pub invariant-loop-tx : goal.invariant-loop-tx
invariant-loop-tx l = AreStoredWith l.policy l.blocks l.yielded l.stored.items
