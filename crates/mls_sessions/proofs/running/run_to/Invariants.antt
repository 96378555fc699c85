use Rattle.mls_sessions.proofs.AnswerLemmas.{Running}
use Rattle.mls_sessions.proofs.running.run_to.Given as goal

abbrev pub invariant-loop-place : goal.invariant-loop-place
invariant-loop-place g l = Running g.B.Base.seen l.audience l.events l.fn.engine
    (g.W.Write.contents l.fn.out) l.place l.engine (g.W.Write.contents l.out)
