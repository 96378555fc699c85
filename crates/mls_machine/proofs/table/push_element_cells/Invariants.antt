use Rattle.std.proofs.Common.{◌≡◌, ◌++◌, take, map}
use Rattle.mls_machine.specs.Output.{table_cell}
use Rattle.mls_machine.proofs.table.push_element_cells.Given as goal

abbrev pub invariant-loop-element : goal.invariant-loop-element
invariant-loop-element l = l.cells.items ≡ l.initial.cells.items
    ++ map (λ e. table_cell l.policy.labels e.class e.value) (take l.element-index l.elements)
