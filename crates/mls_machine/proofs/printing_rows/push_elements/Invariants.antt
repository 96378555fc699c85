use Rattle.std.proofs.Common.{◌≡◌, ◌++◌, take, flat_map}
use Rattle.mls_machine.specs.Output.{cell_entry}
use Rattle.mls_machine.proofs.printing_rows.push_elements.Given as goal

abbrev pub invariant-loop-element : goal.invariant-loop-element
invariant-loop-element l = l.text.items ≡ l.initial.text.items
    ++ flat_map (λ e. cell_entry l.policy.labels e.class e.value) (take l.element-index l.elements)
