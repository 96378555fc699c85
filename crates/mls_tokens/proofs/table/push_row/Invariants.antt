use Rattle.std.proofs.Common.{◌≡◌, ◌++◌, drop}
use Rattle.mls_tokens.specs.Table.{padded}
use Rattle.mls_tokens.proofs.table.push_row.Given as goal

abbrev pub invariant-loop-place : goal.invariant-loop-place
invariant-loop-place l = l.text.items ++ padded l.widths l.place (drop l.place l.cells) ≡ l.initial.text.items
    ++ padded l.widths 0 l.cells
