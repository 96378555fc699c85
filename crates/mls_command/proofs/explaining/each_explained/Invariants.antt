use Rattle.std.proofs.Common.{take}
use Rattle.mls_command.specs.Explaining.{AreExplained}
use Rattle.mls_command.proofs.explaining.each_explained.Given as goal

abbrev pub invariant-loop-tx : goal.invariant-loop-tx
invariant-loop-tx l = AreExplained l.policy l.schemes (take l.tx-index l.txs) l.told.items
