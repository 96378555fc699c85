use Rattle.mls_labeller.proofs.WalkLemmas.{variables_more}
use Rattle.mls_labeller.proofs.lines.variables_to.Goals as goal

pub loop-place-preserved : goal.loop-place-preserved
loop-place-preserved c = variables_more c.args.after c.loop-place.place c.loop-place.sources.items c.push.new.self.items _ c.loop-place-test.true c.in_ok-push.ensures.items c.loop-place.invariant
