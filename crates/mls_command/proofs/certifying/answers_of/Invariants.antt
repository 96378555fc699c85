use Rattle.std.proofs.Common.{take}
use Rattle.mls_command.specs.Certifying.{AreAnswers}
use Rattle.mls_command.proofs.certifying.answers_of.Given as goal

abbrev pub invariant-loop-tx : goal.invariant-loop-tx
invariant-loop-tx l = AreAnswers l.policy (take l.tx-index l.txs) l.answers.items
