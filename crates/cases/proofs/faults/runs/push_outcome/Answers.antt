use Rattle.std.proofs.Common.{ap}
use Rattle.mls_filterview.specs.Content.{State}
use Rattle.mls_audit.proofs.SoundLemmas.{none_sound}
use Rattle.cases.proofs.faults.runs.push_outcome.Goals as goal

pub run_over-end-requires-clause-rest : goal.run_over-end-requires-clause-rest
run_over-end-requires-clause-rest c = record {
  idle = ap (λ (s : State). s.begun) c.base-base.ensures;
  sound = λ _. none_sound c.args.sample.now.policy.now c.args.sample.now.schemes.now _ c.base-base.ensures;
}
