use Rattle.std.proofs.Common.{length}
use Rattle.mls_script.proofs.ScriptSteps.{ReadSoFar}
use Rattle.mls_script.proofs.reading.events_of.Given as goal

abbrev pub decreases-loop-rest : goal.decreases-loop-rest
decreases-loop-rest l = length l.rest

abbrev pub invariant-loop-rest : goal.invariant-loop-rest
invariant-loop-rest l = ReadSoFar l.policy l.schemes l.bytes l.number l.events.items l.rest
