use Rattle.std.proofs.Common.{◌≡◌, ◌++◌, take, flat_map}
use Rattle.mls_translang.specs.Writing.{cell_text, behind_comma}
use Rattle.mls_translang.proofs.writing.push_more_values.Given as goal

abbrev pub invariant-loop-value : goal.invariant-loop-value
invariant-loop-value l = l.text.items ≡ l.initial.text.items ++ flat_map (behind_comma cell_text)
    (take l.value-index l.values)
