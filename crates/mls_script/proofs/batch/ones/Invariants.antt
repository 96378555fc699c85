use Rattle.mls_script.proofs.BatchSteps.{OnesSoFar}
use Rattle.mls_script.proofs.batch.ones.Given as goal

abbrev pub invariant-loop : goal.invariant-loop
invariant-loop l = OnesSoFar l.policy l.schemes l.initial.reader l.counter l.ones.items l.reader
