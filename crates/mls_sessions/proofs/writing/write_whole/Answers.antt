use Rattle.mls_sessions.proofs.WritingSteps.{written_next}
use Rattle.mls_sessions.proofs.writing.write_whole.Goals as goal

pub loop-rest-preserved : goal.loop-rest-preserved
loop-rest-preserved g c = written_next _ (g.W.Write.contents c.loop-rest.out)
    (g.W.Write.contents c.write_some.new.out) c.args.bytes.now c.loop-rest.rest.now c.in_ok-count.count c.loop-rest.invariant c.in_ok-count.ensures.ok
