use Rattle.std.proofs.Common.{◌≡◌, take}
use Rattle.mls_rows.proofs.writing.bytes_of.Given as goal

abbrev pub invariant-loop-label : goal.invariant-loop-label
invariant-loop-label l = l.bytes.items ≡ take l.label-index l.pattern
