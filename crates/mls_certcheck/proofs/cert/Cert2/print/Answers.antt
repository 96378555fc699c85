use Rattle.std.proofs.Common.{rules, ◌≡◌, string_bytes, ap, ◌∙◌}
use Rattle.mls_certcheck.specs.Reading.{text2_in}
use Rattle.mls_certcheck.specs.Spelling.{cert2_text}
use Rattle.mls_certcheck.proofs.CertLemmas.{cert2_again}
use Rattle.mls_certcheck.proofs.cert.Cert2.print.Goals as goal

pub returns-clause-again : goal.returns-clause-again
returns-clause-again c =
    let same : string_bytes c.cert2_to.new.text ≡ cert2_text c.args.self.now = search rules in
    ap text2_in same ∙ cert2_again c.args.self.now c.in_ok-cert2_to.ensures.fits
