use Rattle.std.proofs.Common.{◌≡◌, drop, flat_map}
use Rattle.mls_translang.specs.Layout.{puts}
use Rattle.mls_translang.specs.Tokens.{var_tokens}
use Rattle.mls_translang.proofs.print_tx.vars_to.Given as goal

-- what is left, put after what was put, is the whole
abbrev pub invariant-loop-place : goal.invariant-loop-place
invariant-loop-place l = puts l.out (flat_map var_tokens (drop l.place l.vars)) ≡ puts l.initial.out
    (flat_map var_tokens l.vars)
