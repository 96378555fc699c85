use Rattle.std.proofs.Common.{◌≡◌, ◌++◌}
use Rattle.mls_explain.specs.Steps.{kept_steps}
use Rattle.mls_explain.proofs.step.kept.Given as goal

abbrev pub invariant-loop-place : goal.invariant-loop-place
invariant-loop-place l = l.steps.items ≡ l.initial.steps.items ++ kept_steps l.from l.to l.but l.place
