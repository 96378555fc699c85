use Rattle.std.proofs.Common.{◌≡◌, take, map}
use Rattle.case_tables.specs.Lines.{unbarred}
use Rattle.case_tables.proofs.block.unfolded.Given as goal

abbrev pub invariant-loop-byte : goal.invariant-loop-byte
invariant-loop-byte l = l.bytes.items ≡ map unbarred (take l.byte-index l.byte-items)
