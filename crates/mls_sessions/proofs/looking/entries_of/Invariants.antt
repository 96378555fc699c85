use Rattle.std.proofs.Common.{◌≡◌, take, length}
use Rattle.mls_sessions.specs.World.{entries_in}
use Rattle.mls_sessions.proofs.looking.entries_of.Given as goal

abbrev pub invariant-loop-string : goal.invariant-loop-string
invariant-loop-string l = l.entries.items ≡ entries_in (length l.policy.labels) (take l.string-index l.strings)
