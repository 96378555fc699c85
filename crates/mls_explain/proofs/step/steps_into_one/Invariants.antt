use Rattle.std.proofs.Common.{◌≡◌, ◌++◌, take}
use Rattle.mls_explain.specs.Steps.{steps_to}
use Rattle.mls_explain.proofs.step.steps_into_one.Given as goal

abbrev pub invariant-loop-source : goal.invariant-loop-source
invariant-loop-source l =
    l.steps.items ≡ l.initial.steps.items ++ steps_to l.target (take l.source-index l.sources)
