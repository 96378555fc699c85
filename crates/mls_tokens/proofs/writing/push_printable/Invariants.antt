use Rattle.std.proofs.Common.{◌≡◌, ◌++◌, take, flat_map}
use Rattle.mls_tokens.specs.Writing.{printable_byte}
use Rattle.mls_tokens.proofs.writing.push_printable.Given as goal

abbrev pub invariant-loop-byte : goal.invariant-loop-byte
invariant-loop-byte l = l.text.items ≡ l.initial.text.items ++ flat_map printable_byte (take l.byte-index l.byte-items)
