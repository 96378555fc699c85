use Rattle.std.proofs.Common.{◌≡◌, ◌++◌, drop}
use Rattle.mls_machine.specs.Denying.{fitted}
use Rattle.mls_sessions.proofs.arguments.fitted.Given as goal

abbrev pub invariant-loop-place : goal.invariant-loop-place
invariant-loop-place l = l.values.items ++ fitted (drop l.place l.tx.params) (drop l.place l.args)
    ≡ fitted l.tx.params l.args
