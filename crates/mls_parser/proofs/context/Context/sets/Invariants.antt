use Rattle.std.proofs.Common.{[], length}
use Rattle.mls_parser.specs.ReadList.{set_at}
use Rattle.mls_parser.proofs.ItemSteps.{ItemsSoFar}
use Rattle.mls_parser.proofs.context.Context.sets.Given as goal

abbrev pub invariant-loop-sets : goal.invariant-loop-sets
invariant-loop-sets l = ItemsSoFar (set_at l.self l.scheme) [] l.fn.reader l.sets.items l.reader

abbrev pub decreases-loop-sets : goal.decreases-loop-sets
decreases-loop-sets l = length l.reader.1.placed
