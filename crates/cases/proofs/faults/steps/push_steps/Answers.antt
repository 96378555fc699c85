use Rattle.std.proofs.Common.{ap}
use Rattle.mls_filterview.specs.Content.{State}
use Rattle.mls_audit.proofs.SoundLemmas.{none_sound}
use Rattle.cases.proofs.faults.steps.push_steps.Goals as goal

pub step_over-stop-requires-clause-rest : goal.step_over-stop-requires-clause-rest
step_over-stop-requires-clause-rest c = record {
  idle = ap (λ (s : State). s.begun) c.base-base.ensures;
  sound = λ _. none_sound c.args.sample.now.policy.now c.args.sample.now.schemes.now _ c.base-base.ensures;
}
