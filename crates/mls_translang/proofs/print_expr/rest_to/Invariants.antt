use Rattle.std.proofs.Common.{◌≡◌, drop, flat_map}
use Rattle.mls_translang.specs.Layout.{puts}
use Rattle.mls_tokens.specs.Text.{comma_tokens}
use Rattle.mls_translang.specs.Tokens.{expr_tokens}
use Rattle.mls_translang.proofs.print_expr.rest_to.Given as goal

-- what is left, put after what was put, is the whole
abbrev pub invariant-loop-expr : goal.invariant-loop-expr
invariant-loop-expr l =
    let tokens = comma_tokens (expr_tokens l.names) in
    puts l.out (flat_map tokens (drop l.expr-index l.exprs)) ≡ puts l.initial.out (flat_map tokens l.exprs)
