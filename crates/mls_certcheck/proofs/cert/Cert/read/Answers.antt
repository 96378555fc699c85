use Rattle.std.proofs.Common.{ap, subst, sym, ◌∙◌}
use Rattle.mls_certcheck.specs.Reading.{GivesCert, text_in}
use Rattle.mls_certcheck.proofs.CertLemmas.{cert_found, cert_again, is_told}
use Rattle.mls_certcheck.proofs.cert.Cert.read.Goals as goal

pub returns-clause-found : goal.returns-clause-found
returns-clause-found c = cert_found c.args.bytes.now _ c.in_ok-cert_of_text.ensures

pub returns-clause-only : goal.returns-clause-only
returns-clause-only c = λ x is same. sym (ap text_in same ∙ cert_again x is) ∙ c.in_ok-cert_of_text.ensures

pub returns-in_err-cert_of_text-clause-only : goal.returns-in_err-cert_of_text-clause-only
returns-in_err-cert_of_text-clause-only c =
    let told = is_told (λ x. x) (text_in c.args.bytes.now) c.from_residual.result c.in_err-cert_of_text.field-0.0 c.from_residual.ensures.1 c.in_err-cert_of_text.ensures in
    λ x is same. subst (GivesCert (λ x. x) c.from_residual.result) (ap text_in same ∙ cert_again x is) told
