use Rattle.std.proofs.Common.{[], length}
use Rattle.mls_parser.proofs.ItemSteps.{ItemsSoFar}
use Rattle.mls_script.specs.ReadList.{set_at}
use Rattle.mls_script.proofs.lists.new_values.Given as goal

abbrev pub invariant-loop-sets : goal.invariant-loop-sets
invariant-loop-sets l = ItemsSoFar (set_at l.scheme) [] l.initial.reader l.sets.items l.reader

abbrev pub decreases-loop-sets : goal.decreases-loop-sets
decreases-loop-sets l = length l.reader.1.placed
