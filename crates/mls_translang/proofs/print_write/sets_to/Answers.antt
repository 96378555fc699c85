use Rattle.std.proofs.Common.{ap, ◌-◌, length, take, drop, ◌∙◌, flat_map}
use Rattle.mls_translang.specs.Layout.{puts}
use Rattle.mls_tokens.specs.Text.{comma_tokens}
use Rattle.mls_translang.specs.Tokens.{set_tokens}
use Rattle.mls_translang.proofs.ListLemmas.{separated_more}
use Rattle.mls_translang.proofs.print_write.sets_to.Goals as goal

pub returns-in_ok-set_rest_to-in-len1-up : goal.returns-in_ok-set_rest_to-in-len1-up
returns-in_ok-set_rest_to-in-len1-up c =
    let tokens = set_tokens c.args.names.now c.args.scheme.now in
    c.in_ok-set_rest_to-in-len1-up.ensures
    ∙ ap (λ w. puts w (flat_map (comma_tokens tokens) (take (length c.args.sets.now - 1)
    (drop 1 c.args.sets.now)))) c.in_ok-set_to-in-len1-up.ensures
    ∙ separated_more tokens c.args.sets.now c.first-item.result c.args.out.now c.first-item.is c.in-len1-up.len_at_least
