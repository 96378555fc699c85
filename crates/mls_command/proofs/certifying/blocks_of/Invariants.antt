use Rattle.std.proofs.Common.{◌≡◌, take, string_bytes, flat_map}
use Rattle.mls_command.specs.Certifying.{block_of}
use Rattle.mls_command.proofs.certifying.blocks_of.Given as goal

-- what is written of the answers so far
abbrev pub invariant-loop-answer : goal.invariant-loop-answer
invariant-loop-answer l = string_bytes l.text ≡ flat_map block_of (take l.answer-index l.answers)
