use Rattle.std.proofs.Common.{◌≡◌, ◌++◌, take, codes, flat_map}
use Rattle.mls_machine.specs.Output.{front, table_row}
use Rattle.mls_machine.proofs.table.push_tuples.Given as goal

abbrev pub invariant-loop-place : goal.invariant-loop-place
invariant-loop-place l = l.text.items ≡ l.initial.text.items
    ++ flat_map (λ t. front l.to.policy.now l.to.event.now l.to.event.now.level ++ table_row l.to.policy.now l.widths t
    ++ codes "\n") (take l.place l.rows)
