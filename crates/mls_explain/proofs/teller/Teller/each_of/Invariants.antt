use Rattle.std.proofs.Common.{string_bytes}
use Rattle.mls_explain.specs.Telling.{TellsEach}
use Rattle.mls_explain.proofs.teller.Teller.each_of.Given as goal

-- of the statements so far
abbrev pub invariant-loop-place : goal.invariant-loop-place
invariant-loop-place l = TellsEach l.told (string_bytes l.text)
