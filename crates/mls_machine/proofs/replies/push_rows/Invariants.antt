use Rattle.std.proofs.Common.{◌≡◌, ◌++◌, take, codes, flat_map}
use Rattle.mls_machine.specs.Output.{front, row_text}
use Rattle.mls_machine.proofs.replies.push_rows.Given as goal

abbrev pub invariant-loop-place : goal.invariant-loop-place
invariant-loop-place l = l.text.items ≡ l.initial.text.items
    ++ flat_map (λ t. front l.to.policy.now l.to.event.now l.to.event.now.level ++ row_text l.to.policy.now t
    ++ codes "\n") (take l.place l.rows)
