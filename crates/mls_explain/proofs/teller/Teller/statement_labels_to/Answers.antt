use Rattle.std.proofs.Common.{◌++◌, ◌∙◌, ap, codes, string_bytes}
use Rattle.mls_explain.proofs.TellingLemmas.{joined}
use Rattle.mls_explain.proofs.teller.Teller.statement_labels_to.Goals as goal

pub returns : goal.returns
returns c =
    let words = ap (λ w. string_bytes c.four_to.new.text ++ (codes "  at" ++ w ++ codes "\n")) c.in_ok-words.ensures in
    joined _ _ _ c.in_ok-four_to.ensures (c.in_ok-writeln.ensures.bytes ∙ words)
