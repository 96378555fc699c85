use Rattle.std.proofs.Common.{◌≡◌, drop}
use Rattle.mls_tokens.specs.Scanning.{after_gap}
use Rattle.mls_tokens.proofs.gap.after_gap.Given as goal

abbrev pub invariant-loop-i : goal.invariant-loop-i
invariant-loop-i l = after_gap l.inside (drop l.i l.bytes) ≡ after_gap l.initial.inside l.bytes
