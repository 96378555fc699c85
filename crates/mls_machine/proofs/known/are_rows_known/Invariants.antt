use Rattle.std.proofs.Common.{◌≡◌, drop}
use Rattle.mls_machine.specs.Known.{tuples_known}
use Rattle.mls_machine.proofs.known.are_rows_known.Given as goal

abbrev pub invariant-loop-place : goal.invariant-loop-place
invariant-loop-place l = tuples_known l.count (drop l.place l.rows) ≡ tuples_known l.count l.rows
