use Rattle.std.proofs.Common.{◌≡◌, take}
use Rattle.mls_rows.proofs.reading.decoded_pattern.Given as goal

abbrev pub invariant-loop-byte : goal.invariant-loop-byte
invariant-loop-byte l = l.labels.items ≡ take l.byte-index l.bytes
