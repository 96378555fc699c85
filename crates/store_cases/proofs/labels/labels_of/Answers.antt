use Rattle.std.proofs.Common.{ap}
use Rattle.mls_filterview.specs.Content.{State}
use Rattle.mls_audit.proofs.SoundLemmas.{none_sound}
use Rattle.store_cases.proofs.labels.labels_of.Goals as goal

pub do_task-end-requires : goal.do_task-end-requires
do_task-end-requires c = record {
  idle = ap (λ (s : State). s.begun) c.new-base.ensures;
  sound = λ _. none_sound c.args.site.now.policy c.args.site.now.file.schemes _ c.new-base.ensures;
}
