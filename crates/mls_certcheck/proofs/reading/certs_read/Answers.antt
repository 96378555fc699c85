use Rattle.std.proofs.Common.{ap, subst, sym, ◌∙◌}
use Rattle.mls_certcheck.specs.Reading.{GivesCert, file_in}
use Rattle.mls_certcheck.proofs.CertLemmas.{is_told}
use Rattle.mls_certcheck.proofs.FileLemmas.{file_again, file_found}
use Rattle.mls_certcheck.proofs.reading.certs_read.Goals as goal

pub returns-clause-found : goal.returns-clause-found
returns-clause-found c = file_found c.args.bytes.now _ c.in_ok-file_of.ensures

pub returns-clause-only : goal.returns-clause-only
returns-clause-only c = λ x is same. sym (ap file_in same ∙ file_again x is) ∙ c.in_ok-file_of.ensures

pub returns-in_err-file_of-clause-only : goal.returns-in_err-file_of-clause-only
returns-in_err-file_of-clause-only c =
    let told = is_told (λ v. v.items) (file_in c.args.bytes.now) c.from_residual.result c.in_err-file_of.field-0.0 c.from_residual.ensures.1 c.in_err-file_of.ensures in
    λ x is same. subst (GivesCert (λ v. v.items) c.from_residual.result) (ap file_in same ∙ file_again x is) told
