use Rattle.mls_script.proofs.TellingLemmas.{read_refused}
use Rattle.mls_script.proofs.LawLemmas.{read_found, fits_found}
use Rattle.mls_script.proofs.reading.script.Goals as goal

pub returns-clause-reads : goal.returns-clause-reads
returns-clause-reads c = read_found c.args.policy.now c.args.schemes.now
    (λ v. v.items) c.args.bytes.now c.events_of.result c.events_of.ensures

pub returns-clause-fits : goal.returns-clause-fits
returns-clause-fits c = fits_found c.args.policy.now c.args.schemes.now
    (λ v. v.items) c.args.bytes.now c.events_of.result c.events_of.ensures

pub returns-clause-refused : goal.returns-clause-refused
returns-clause-refused c = read_refused c.args.policy.now c.args.schemes.now c.use_invariant.ensures c.use_invariant-2.ensures (λ v. v.items) c.args.bytes.now c.events_of.result c.events_of.ensures
