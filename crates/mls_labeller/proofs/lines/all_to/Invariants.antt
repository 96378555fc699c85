use Rattle.std.proofs.Common.{◌≡◌, ◌++◌, take}
use Rattle.mls_certcheck.specs.Lent.{names_here}
use Rattle.mls_labeller.proofs.lines.all_to.Given as goal

abbrev pub invariant-loop-expr : goal.invariant-loop-expr
invariant-loop-expr l = l.sources.items ≡ l.initial.sources.items ++ names_here l.here (take l.expr-index l.exprs)
