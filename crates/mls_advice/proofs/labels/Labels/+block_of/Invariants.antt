use Rattle.std.proofs.Common.{length}
use Rattle.mls_advice.proofs.labels.Labels.+block_of.Given as goal

abbrev pub decreases-block_of : goal.decreases-block_of
decreases-block_of l = length l.labels.now
