use Rattle.std.proofs.Common.{◌≡◌, take}
use Rattle.mls_labeller.proofs.labels.copied.Given as goal

abbrev pub invariant-loop-label : goal.invariant-loop-label
invariant-loop-label l = l.copy.items ≡ take l.label-index l.labels
