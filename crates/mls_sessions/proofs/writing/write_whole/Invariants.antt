use Rattle.std.proofs.Common.{length}
use Rattle.mls_sessions.proofs.WritingSteps.{Written}
use Rattle.mls_sessions.proofs.writing.write_whole.Given as goal

abbrev pub invariant-loop-rest : goal.invariant-loop-rest
invariant-loop-rest g l = Written (g.W.Write.contents l.initial.out) (g.W.Write.contents l.out) l.bytes l.rest

abbrev pub decreases-loop-rest : goal.decreases-loop-rest
decreases-loop-rest g l = length l.rest
