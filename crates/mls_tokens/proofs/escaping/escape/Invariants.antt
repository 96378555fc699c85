use Rattle.std.proofs.Common.{◌≡◌, ◌++◌, drop}
use Rattle.mls_tokens.specs.Screen.{escaped_from, escaped}
use Rattle.mls_tokens.proofs.escaping.escape.Given as goal

abbrev pub invariant-loop-i : goal.invariant-loop-i
invariant-loop-i l = l.text.items ++ escaped_from l.over (drop l.i l.bytes) ≡ escaped l.bytes
