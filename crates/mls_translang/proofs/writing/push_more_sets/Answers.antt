use Rattle.mls_translang.specs.Writing.{set_text}
use Rattle.mls_translang.proofs.WritingSteps.{one_more}
use Rattle.mls_translang.proofs.writing.push_more_sets.Goals as goal

pub loop-set-preserved : goal.loop-set-preserved
loop-set-preserved c =
    one_more (set_text c.args.scheme.now) c.args.sets.now c.loop-set.set-index c.set-item.result c.loop-set-test.true c.set-item.is
    _ _ _ _ c.loop-set.invariant c.in_ok-push_str.ensures c.in_ok-push_set.ensures
