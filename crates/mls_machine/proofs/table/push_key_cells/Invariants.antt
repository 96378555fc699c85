use Rattle.std.proofs.Common.{◌≡◌, ◌++◌, take, Some, map}
use Rattle.mls_machine.specs.Output.{table_cell}
use Rattle.mls_machine.proofs.table.push_key_cells.Given as goal

abbrev pub invariant-loop-value : goal.invariant-loop-value
invariant-loop-value l = l.cells.items ≡ l.initial.cells.items ++ map (λ v. table_cell l.policy.labels l.class (Some v))
    (take l.value-index l.key)
