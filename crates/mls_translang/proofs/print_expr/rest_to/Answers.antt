use Rattle.std.proofs.Common.{ap, ◌+◌, drop, ◌∙◌, flat_map}
use Rattle.mls_translang.specs.Layout.{puts}
use Rattle.mls_tokens.specs.Text.{comma_tokens}
use Rattle.mls_translang.specs.Tokens.{expr_tokens}
use Rattle.mls_translang.proofs.ListLemmas.{rest_more}
use Rattle.mls_translang.proofs.print_expr.rest_to.Goals as goal

pub loop-expr-preserved : goal.loop-expr-preserved
loop-expr-preserved c =
    let tokens = expr_tokens c.args.names.now in
    let i = c.loop-expr.expr-index in
    ap (λ w. puts w (flat_map (comma_tokens tokens) (drop (i + 1) c.args.exprs.now)))
    (c.in_ok-expr_to.ensures ∙ ap (λ w. puts w (tokens c.expr-item.result)) c.in_ok-sign.ensures)
    ∙ rest_more (comma_tokens tokens) c.args.exprs.now c.expr-item.result c.loop-expr.out i c.expr-item.is c.loop-expr-test.true
    ∙ c.loop-expr.invariant
