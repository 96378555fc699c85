use Rattle.std.proofs.Common.{◌≡◌, ◌++◌, take, codes, flat_map}
use Rattle.mls_machine.specs.Output.{front, entry_text}
use Rattle.mls_machine.proofs.replies.push_entries.Given as goal

abbrev pub invariant-loop-entry : goal.invariant-loop-entry
invariant-loop-entry l = l.text.items ≡ l.initial.text.items
    ++ flat_map (λ e. front l.to.policy.now l.to.event.now l.to.event.now.level ++ entry_text l.to.policy.now e
    ++ codes "\n") (take l.entry-index l.entries)
