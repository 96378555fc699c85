use Rattle.std.proofs.Common.{ap, subst, ◌∙◌, arith}
use Rattle.mls_scheme.specs.KeyReading.{GivesKey, key_at}
use Rattle.mls_scheme.proofs.KeyLemmas.{is_found, key_again}
use Rattle.mls_scheme.proofs.key_reading.key_of.Goals as goal

pub returns-clause-found : goal.returns-clause-found
returns-clause-found c = is_found c.args.bytes.now c.all_of.result
    (λ i. omega (arith, c.type_inv.bytes i)) c.all_of.ensures

pub returns-clause-only : goal.returns-clause-only
returns-clause-only c = λ key fits e. subst (λ f. GivesKey (λ v. v.items) c.all_of.result f)
    (ap key_at e ∙ key_again key fits) c.all_of.ensures
