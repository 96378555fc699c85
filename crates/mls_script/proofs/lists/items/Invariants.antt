use Rattle.std.proofs.Common.{[], length, option_map}
use Rattle.mls_parser.proofs.ItemSteps.{ItemsSoFar}
use Rattle.mls_script.specs.ReadList.{item_at}
use Rattle.mls_script.proofs.lists.items.Given as goal

abbrev pub invariant-loop-items : goal.invariant-loop-items
invariant-loop-items l = ItemsSoFar (item_at
    (option_map (λ a. a.now) l.attributes)) [] l.initial.reader l.items.items l.reader

abbrev pub decreases-loop-items : goal.decreases-loop-items
decreases-loop-items l = length l.reader.1.placed
