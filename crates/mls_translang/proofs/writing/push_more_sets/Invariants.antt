use Rattle.std.proofs.Common.{◌≡◌, ◌++◌, take, flat_map}
use Rattle.mls_translang.specs.Writing.{set_text, behind_comma}
use Rattle.mls_translang.proofs.writing.push_more_sets.Given as goal

abbrev pub invariant-loop-set : goal.invariant-loop-set
invariant-loop-set l = l.text.items ≡ l.initial.text.items ++ flat_map (behind_comma (set_text l.scheme))
    (take l.set-index l.sets)
