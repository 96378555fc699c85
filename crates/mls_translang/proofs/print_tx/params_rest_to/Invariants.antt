use Rattle.std.proofs.Common.{◌≡◌, drop, flat_map}
use Rattle.mls_translang.specs.Layout.{puts}
use Rattle.mls_tokens.specs.Text.{comma_tokens}
use Rattle.mls_translang.specs.Tokens.{param_tokens}
use Rattle.mls_translang.proofs.print_tx.params_rest_to.Given as goal

-- what is left, put after what was put, is the whole
abbrev pub invariant-loop-place : goal.invariant-loop-place
invariant-loop-place l =
    let tokens = comma_tokens (param_tokens l.names) in
    puts l.out (flat_map tokens (drop l.place l.params)) ≡ puts l.initial.out (flat_map tokens (drop 1 l.params))
