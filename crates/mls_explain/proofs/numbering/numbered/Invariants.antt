use Rattle.std.proofs.Common.{take, map, string_bytes}
use Rattle.mls_explain.specs.Telling.{IsListing}
use Rattle.mls_explain.proofs.numbering.numbered.Given as goal

-- of the lines so far
abbrev pub invariant-loop-place : goal.invariant-loop-place
invariant-loop-place l = IsListing (map (λ x. x.now) (take l.place l.line-items)) (string_bytes l.text)
