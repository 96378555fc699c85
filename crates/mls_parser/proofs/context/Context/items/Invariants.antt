use Rattle.std.proofs.Common.{[], length}
use Rattle.mls_parser.specs.ReadList.{item_at}
use Rattle.mls_parser.proofs.ItemSteps.{ItemsSoFar}
use Rattle.mls_parser.proofs.context.Context.items.Given as goal

abbrev pub invariant-loop-items : goal.invariant-loop-items
invariant-loop-items l = ItemsSoFar (item_at l.self l.attributes) [] l.fn.reader l.items.items l.reader

abbrev pub decreases-loop-items : goal.decreases-loop-items
decreases-loop-items l = length l.reader.1.placed
