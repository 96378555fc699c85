use Rattle.std.proofs.Common.{◌≡◌, ◌++◌, take, flat_map}
use Rattle.mls_machine.specs.Seen.{seen_item}
use Rattle.mls_machine.proofs.shown.push_seen.Given as goal

abbrev pub invariant-loop-item : goal.invariant-loop-item
invariant-loop-item l = l.text.items ≡ l.initial.text.items
    ++ flat_map (seen_item l.to.policy.now l.to.event.now l.reader l.deed) (take l.item-index l.items)
