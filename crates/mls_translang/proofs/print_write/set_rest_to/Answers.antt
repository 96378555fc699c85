use Rattle.std.proofs.Common.{ap, ◌+◌, drop, ◌∙◌, flat_map}
use Rattle.mls_translang.specs.Layout.{puts}
use Rattle.mls_tokens.specs.Text.{comma_tokens}
use Rattle.mls_translang.specs.Tokens.{set_tokens}
use Rattle.mls_translang.proofs.ListLemmas.{rest_more}
use Rattle.mls_translang.proofs.print_write.set_rest_to.Goals as goal

pub loop-set-preserved : goal.loop-set-preserved
loop-set-preserved c =
    let tokens = set_tokens c.args.names.now c.args.scheme.now in
    let i = c.loop-set.set-index in
    ap (λ w. puts w (flat_map (comma_tokens tokens) (drop (i + 1) c.args.sets.now)))
    (c.in_ok-set_to.ensures ∙ ap (λ w. puts w (tokens c.set-item.result)) c.in_ok-sign.ensures)
    ∙ rest_more (comma_tokens tokens) c.args.sets.now c.set-item.result c.loop-set.out i c.set-item.is c.loop-set-test.true
    ∙ c.loop-set.invariant
