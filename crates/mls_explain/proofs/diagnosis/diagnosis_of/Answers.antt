use Rattle.std.proofs.Common.{◌≡◌, ℕ, List, [], Some, refl, sym, subst}
use Rattle.mls_lattice.specs.Policy.{Policy}
use Rattle.mls_scheme.specs.declared.file.SchemesFile.{SchemesFile}
use Rattle.mls_fragments.specs.declared.open_fault.OpenFault.{OpenFault}
use Rattle.mls_fragments.specs.declared.open_fault.OpenFault.TheVariants.{Store, OtherPolicy, BadRows, Memory}
use Rattle.mls_tokens.specs.Screen.{IsHarmless}
use Rattle.mls_tokens.proofs.HarmlessLemmas.{escaped_harmless}
use Rattle.mls_explain.specs.Diagnosis.{IsOthersIn, IsBadIn, IsDiagnosis, sound, damaged, of_others, bad}
use Rattle.mls_explain.proofs.diagnosis.diagnosis_of.Goals as goal

module _ (policy : Policy) (file : SchemesFile) (log db : List ℕ) where
  found : (fault : OpenFault) → (fault ≡ OtherPolicy → IsOthersIn policy file log db)
      → (fault ≡ BadRows → IsBadIn policy file log db) → (fault ≡ Memory → ⊥) → IsDiagnosis policy file log db
      (Some fault)
  found Store others rows memory = damaged
  found OtherPolicy others rows memory = of_others (others refl)
  found BadRows others rows memory = bad (rows refl)
  found Memory others rows memory = absurd (memory refl)

pub returns-in-Ok-clause-fault : goal.returns-in-Ok-clause-fault
returns-in-Ok-clause-fault c = sound c.in-Ok.ensures.sound

pub returns-in-Ok-clause-text : goal.returns-in-Ok-clause-text
returns-in-Ok-clause-text c = subst IsHarmless (sym c.new.ensures.items) (escaped_harmless [])

pub returns-in_ok-lines_of-in-Err-clause-fault : goal.returns-in_ok-lines_of-in-Err-clause-fault
returns-in_ok-lines_of-in-Err-clause-fault c =
    found c.args.policy.now c.args.file.now c.args.log.now c.args.db.now c.in-Err.fault c.in-Err.ensures.others c.in-Err.ensures.bad c.in_ok-lines_of-in-Err.ensures.fault
