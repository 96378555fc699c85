use Rattle.std.proofs.Common.{◌≡◌, ◌++◌}
use Rattle.mls_certcheck.specs.Lines.{variables}
use Rattle.mls_labeller.proofs.lines.variables_to.Given as goal

-- what is left, added after what was added, is the whole
abbrev pub invariant-loop-place : goal.invariant-loop-place
invariant-loop-place l = l.sources.items ++ variables l.after l.place ≡ l.initial.sources.items
    ++ variables l.after l.count

abbrev pub decreases-loop-place : goal.decreases-loop-place
decreases-loop-place l = l.place
