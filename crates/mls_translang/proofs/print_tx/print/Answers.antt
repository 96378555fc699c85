use Rattle.std.proofs.Common.{ap, codes, ◌++◌, ◌∙◌}
use Rattle.mls_translang.specs.Layout.{puts, start}
use Rattle.mls_translang.specs.Tokens.{tokens_of}
use Rattle.mls_translang.proofs.LayoutLemmas.{puts-laid}
use Rattle.mls_translang.proofs.print_tx.print.Goals as goal

pub returns : goal.returns
returns c =
    let tokens = tokens_of c.args.policy.now c.args.schemes.now c.args.tx.now in
    c.in_ok-text.ensures
    ∙ ap (λ w. w.text ++ codes "\n") (c.in_ok-tx_to.ensures ∙ ap (λ w. puts w tokens) c.new-out.ensures)
    ∙ puts-laid start tokens
