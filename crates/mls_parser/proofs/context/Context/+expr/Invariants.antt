use Rattle.std.proofs.Common.{◌+◌, ◌*◌}
use Rattle.mls_parser.proofs.context.Context.+expr.Given as goal

abbrev pub decreases-expr : goal.decreases-expr
decreases-expr l = 5 * l.depth + 2

abbrev pub decreases-negation : goal.decreases-negation
decreases-negation l = 5 * l.depth

abbrev pub decreases-operation : goal.decreases-operation
decreases-operation l = 5 * l.depth

abbrev pub decreases-second : goal.decreases-second
decreases-second l = 5 * l.depth + 3

abbrev pub decreases-term : goal.decreases-term
decreases-term l = 5 * l.depth + 1
