use Rattle.std.proofs.Common.{ap, ◌-◌, length, take, drop, ◌∙◌, flat_map}
use Rattle.mls_translang.specs.Layout.{puts}
use Rattle.mls_tokens.specs.Text.{comma_tokens}
use Rattle.mls_translang.specs.Tokens.{expr_tokens}
use Rattle.mls_translang.proofs.ListLemmas.{separated_more}
use Rattle.mls_translang.proofs.print_expr.exprs_to.Goals as goal

pub returns-in_ok-rest_to-in-len1-up : goal.returns-in_ok-rest_to-in-len1-up
returns-in_ok-rest_to-in-len1-up c =
    let tokens = expr_tokens c.args.names.now in
    c.in_ok-rest_to-in-len1-up.ensures
    ∙ ap (λ w. puts w (flat_map (comma_tokens tokens) (take (length c.args.exprs.now - 1)
    (drop 1 c.args.exprs.now)))) c.in_ok-expr_to-in-len1-up.ensures
    ∙ separated_more tokens c.args.exprs.now c.first-item.result c.args.out.now c.first-item.is c.in-len1-up.len_at_least
