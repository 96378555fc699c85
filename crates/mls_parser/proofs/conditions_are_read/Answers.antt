use Rattle.mls_parser.proofs.ConditionAgain.{conditions_are_read}
use Rattle.mls_parser.proofs.conditions_are_read.Goals as goal

pub returns : goal.returns
returns c = conditions_are_read
