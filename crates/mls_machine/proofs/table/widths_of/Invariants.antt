use Rattle.std.proofs.Common.{◌≡◌, [], drop}
use Rattle.mls_tokens.specs.Table.{wider}
use Rattle.mls_machine.specs.Output.{widths_with}
use Rattle.mls_machine.proofs.table.widths_of.Given as goal

abbrev pub invariant-loop-place : goal.invariant-loop-place
invariant-loop-place l = widths_with l.policy l.widths.items (drop l.place l.rows) ≡ widths_with l.policy
    (wider [] 0 l.names) l.rows
