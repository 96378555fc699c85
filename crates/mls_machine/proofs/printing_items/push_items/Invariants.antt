use Rattle.std.proofs.Common.{◌≡◌, ◌++◌, take, codes, flat_map}
use Rattle.mls_translang.specs.Writing.{cell_text}
use Rattle.mls_machine.specs.Output.{front}
use Rattle.mls_machine.proofs.printing_items.push_items.Given as goal

abbrev pub invariant-loop-item : goal.invariant-loop-item
invariant-loop-item l = l.text.items ≡ l.initial.text.items ++ flat_map (λ i. front l.to.policy.now l.to.event.now i.0
    ++ (l.deed ++ cell_text i.1) ++ codes "\n") (take l.item-index l.items)
