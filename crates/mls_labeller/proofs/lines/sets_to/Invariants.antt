use Rattle.std.proofs.Common.{◌≡◌, ◌++◌, take, map}
use Rattle.mls_certcheck.specs.Lent.{names_here}
use Rattle.mls_labeller.proofs.lines.sets_to.Given as goal

abbrev pub invariant-loop-set : goal.invariant-loop-set
invariant-loop-set l =
    l.sources.items ≡ l.initial.sources.items ++ names_here l.here (map (λ s. s.1) (take l.set-index l.sets))
