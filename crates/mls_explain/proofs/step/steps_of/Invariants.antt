use Rattle.std.proofs.Common.{◌≡◌, take, flat_map}
use Rattle.mls_explain.specs.Steps.{steps_in}
use Rattle.mls_explain.proofs.step.steps_of.Given as goal

abbrev pub invariant-loop-line : goal.invariant-loop-line
invariant-loop-line l = l.steps.items ≡ flat_map (λ x. steps_in l.vars x.flow) (take l.line-index l.lines)
