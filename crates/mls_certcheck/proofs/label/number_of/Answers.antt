use Rattle.std.proofs.Common.{rules, ap, sym, ◌∙◌, Err}
use Rattle.mls_certcheck.proofs.CertificateLabelLemmas.{number_parsed}
use Rattle.mls_certcheck.proofs.label.number_of.Goals as goal

pub returns-in-Ok : goal.returns-in-Ok
returns-in-Ok c = let h = rw c.in-Ok.is at
    (number_parsed c.args.line c.args.text.now c.parse.result c.requires c.parse.ensures.value.0) in search rules

pub returns-in-Err : goal.returns-in-Err
returns-in-Err c = let h = rw c.in-Err.is at
    (number_parsed c.args.line c.args.text.now c.parse.result c.requires c.parse.ensures.value.0)
    in h ∙ ap (λ f. Err f) (sym c.bad_label.ensures)
