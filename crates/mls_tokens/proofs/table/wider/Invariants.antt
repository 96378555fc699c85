use Rattle.std.proofs.Common.{◌≡◌, ◌++◌, drop}
use Rattle.mls_tokens.specs.Table.{wider}
use Rattle.mls_tokens.proofs.table.wider.Given as goal

abbrev pub invariant-loop-place : goal.invariant-loop-place
invariant-loop-place l = l.wide.items ++ wider l.widths l.place (drop l.place l.cells) ≡ wider l.widths 0 l.cells
