use Rattle.std.proofs.Common.{◌≡◌, ◌+ℤ◌, pos, drop}
use Rattle.mls_tables.specs.Rows.{are_numbered}
use Rattle.mls_tables.proofs.decode.are_numbered.Given as goal

abbrev pub invariant-loop-entry : goal.invariant-loop-entry
invariant-loop-entry l = are_numbered (l.last +ℤ pos 1) (drop l.entry-index l.entries) ≡ are_numbered (pos 1) l.entries
