use Rattle.std.proofs.Common.{sym, subst}
use Rattle.mls_certcheck.specs.Site.{AreRead, AreCertified, site_of}
use Rattle.cases.proofs.faults.runs.push_answers.Goals as goal

pub run_over-requires-clause-serves : goal.run_over-requires-clause-serves
run_over-requires-clause-serves c =
    let sample = c.args.sample.now in
    record {
      under = sample.under;
      read = subst (λ xs. AreRead (site_of sample.policy.now sample.schemes.now xs))
          (sym c.none_stored-none.ensures) tt;
      certified = subst (λ xs. AreCertified (site_of sample.policy.now sample.schemes.now xs))
          (sym c.none_stored-none.ensures) tt;
    }
