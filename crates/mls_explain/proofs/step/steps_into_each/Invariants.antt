use Rattle.std.proofs.Common.{◌≡◌, ◌++◌, take}
use Rattle.mls_explain.specs.Steps.{into_steps}
use Rattle.mls_explain.proofs.step.steps_into_each.Given as goal

abbrev pub invariant-loop-target : goal.invariant-loop-target
invariant-loop-target l =
    l.steps.items ≡ l.initial.steps.items ++ into_steps (take l.target-index l.targets) l.sources
