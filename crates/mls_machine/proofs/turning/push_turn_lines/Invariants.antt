use Rattle.std.proofs.Common.{◌≡◌, ◌++◌, take, codes, flat_map}
use Rattle.mls_machine.specs.Turning.{turn_line}
use Rattle.mls_machine.proofs.turning.push_turn_lines.Given as goal

abbrev pub invariant-loop-entry : goal.invariant-loop-entry
invariant-loop-entry l = l.text.items ≡ l.initial.text.items ++ flat_map (λ e. (turn_line l.policy e).text
    ++ codes "\n") (take l.entry-index l.entries)
