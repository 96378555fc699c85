use Rattle.std.proofs.Common.{◌≡◌, ◌++◌, take, flat_map}
use Rattle.mls_tokens.specs.Table.{ruled}
use Rattle.mls_tokens.proofs.table.push_rule.Given as goal

abbrev pub invariant-loop-width : goal.invariant-loop-width
invariant-loop-width l = l.text.items ≡ l.initial.text.items ++ flat_map ruled (take l.width-index l.widths)
