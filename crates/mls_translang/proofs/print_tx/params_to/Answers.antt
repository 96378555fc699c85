use Rattle.std.proofs.Common.{ap, drop, ◌∙◌, flat_map}
use Rattle.mls_translang.specs.Layout.{puts}
use Rattle.mls_tokens.specs.Text.{comma_tokens}
use Rattle.mls_translang.specs.Tokens.{param_tokens}
use Rattle.mls_translang.proofs.ListLemmas.{first_more}
use Rattle.mls_translang.proofs.print_tx.params_to.Goals as goal

pub returns : goal.returns
returns c =
    let tokens = param_tokens c.args.names.now in
    c.in_ok-params_rest_to.ensures
    ∙ ap (λ w. puts w (flat_map (comma_tokens tokens) (drop 1 c.args.params.now))) c.in_ok-param_to.ensures
    ∙ first_more tokens c.args.params.now c.name.result.now c.get.result.now c.name.ensures c.get.ensures c.args.out.now
