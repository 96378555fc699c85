use Rattle.mls_sessions.specs.Engine.{IsKept}
use Rattle.cases.proofs.faults.steps.step_to_fault.Given as goal

abbrev pub invariant-loop-place : goal.invariant-loop-place
invariant-loop-place g l = IsKept g.B.Base.seen l.initial.engine l.engine
