use Rattle.std.proofs.Common.{ap, ◌+◌, drop, ◌∙◌, flat_map}
use Rattle.mls_translang.specs.Layout.{puts}
use Rattle.mls_tokens.specs.Text.{comma_tokens}
use Rattle.mls_translang.specs.Tokens.{param_tokens}
use Rattle.mls_translang.proofs.ListLemmas.{place_more}
use Rattle.mls_translang.proofs.print_tx.params_rest_to.Goals as goal

pub loop-place-preserved : goal.loop-place-preserved
loop-place-preserved c =
    let tokens = param_tokens c.args.names.now in
    let i = c.loop-place.place in
    ap (λ w. puts w (flat_map (comma_tokens tokens) (drop (i + 1) c.args.params.now)))
    (c.in_ok-param_to.ensures ∙ ap (λ w. puts w (tokens (c.name.result.now, c.get.result.now))) c.in_ok-sign.ensures)
    ∙ place_more (comma_tokens tokens) c.args.params.now c.name.result.now c.get.result.now i c.name.ensures c.get.ensures c.loop-place.out
    ∙ c.loop-place.invariant
