use Rattle.mls_runs.proofs.HistoryLemmas.{Goes}
use Rattle.mls_runs.proofs.history.run_history.Given as goal

abbrev pub invariant-loop-run : goal.invariant-loop-run
invariant-loop-run g l = Goes g.D.Disk l.policy l.file l.audience l.fn.runs.items l.fn.files
    (g.W.Write.contents l.initial.out) l.yielded l.run-iterator.rest.items l.number l.left (g.W.Write.contents l.out)
