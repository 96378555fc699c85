use Rattle.std.proofs.Common.{◌≡◌, drop}
use Rattle.mls_machine.specs.Denying.{are_wrong_at}
use Rattle.mls_sessions.proofs.arguments.has_misfit.Given as goal

abbrev pub invariant-loop-place : goal.invariant-loop-place
invariant-loop-place l = are_wrong_at l.tx.lo (drop l.place l.tx.params) (drop l.place l.args)
    ≡ are_wrong_at l.tx.lo l.tx.params l.args
