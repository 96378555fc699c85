use Rattle.std.proofs.Common.{◌≡◌, ◌++◌, take, Some, flat_map}
use Rattle.mls_machine.specs.Output.{cell_entry}
use Rattle.mls_machine.proofs.printing_rows.push_key.Given as goal

abbrev pub invariant-loop-value : goal.invariant-loop-value
invariant-loop-value l = l.text.items ≡ l.initial.text.items ++ flat_map (λ v. cell_entry l.policy.labels l.class
    (Some v)) (take l.value-index l.key)
