use Rattle.std.proofs.Common.{ap, subst, ◌∙◌, arith}
use Rattle.mls_scheme.specs.KeyReading.{GivesKey}
use Rattle.mls_audit.specs.Reading.{entry_at}
use Rattle.mls_audit.proofs.EntryLemmas.{is_found, entry_again}
use Rattle.mls_audit.proofs.reading.entry_of.Goals as goal

pub returns-clause-found : goal.returns-clause-found
returns-clause-found c = is_found c.args.bytes.now c.all_of.result
    (λ i. omega (arith, c.type_inv.bytes i)) c.all_of.ensures

pub returns-clause-only : goal.returns-clause-only
returns-clause-only c = λ e fits same. subst (λ f. GivesKey (λ x. x) c.all_of.result f) (ap entry_at same
    ∙ entry_again e fits) c.all_of.ensures
