use Rattle.std.proofs.Common.{ap, ◌+◌, drop, ◌∙◌, flat_map}
use Rattle.mls_translang.specs.Layout.{puts}
use Rattle.mls_translang.specs.Tokens.{var_tokens}
use Rattle.mls_translang.proofs.ListLemmas.{place_more}
use Rattle.mls_translang.proofs.print_tx.vars_to.Goals as goal

pub loop-place-preserved : goal.loop-place-preserved
loop-place-preserved c =
    let i = c.loop-place.place in
    ap (λ w. puts w (flat_map var_tokens (drop (i + 1) c.args.vars.now))) c.in_ok-var_to.ensures
    ∙ place_more var_tokens c.args.vars.now c.name.result.now c.get.result.now i c.name.ensures c.get.ensures c.loop-place.out
    ∙ c.loop-place.invariant
