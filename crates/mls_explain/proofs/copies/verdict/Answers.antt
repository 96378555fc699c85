use Rattle.std.proofs.Common.{◌≡◌, ◌⊎◌, inl, inr, ◌∙◌, sym, List, ℕ, refl, subst₂}
use Rattle.sqlite_disk.specs.declared.Files.{Files}
use Rattle.sqlite.specs.Files.{image_of, file_state}
use Rattle.mls_lattice.specs.Policy.{Policy}
use Rattle.mls_scheme.specs.declared.file.SchemesFile.{SchemesFile}
use Rattle.mls_fragments.specs.Again.{AreRefused, FindsHoldings, unopened, unadopted}
use Rattle.mls_fragments.specs.Based.{state_of}
use Rattle.mls_fragments.specs.Holdings.{IsTakenOf}
use Rattle.mls_fragments.specs.MemoryFile.{over_memory, bytes_of}
use Rattle.mls_fragments.specs.declared.memory_file.MemoryFile.{MemoryFile}
use Rattle.mls_fragments.specs.declared.open_fault.OpenFault.{OpenFault}
use Rattle.mls_fragments.specs.declared.open_fault.OpenFault.TheVariants.{OtherPolicy, BadRows, Memory}
use Rattle.mls_fragments.proofs.HoldingsLemmas.{base_is_taken}
use Rattle.mls_fragments.proofs.MemoryLemmas.{memory_files_are_clean}
use Rattle.mls_explain.specs.Diagnosis.{image, IsOthersIn, IsBadIn}
use Rattle.mls_explain.proofs.copies.verdict.Goals as goal

-- what is known of a fault is known of one that may be memory's
kept : (P : Type 0) (other : OpenFault) → (Memory ≡ other → ⊥) → (fault e : OpenFault)
    → (e ≡ fault) ⊎ (e ≡ Memory) → (fault ≡ other → P) → e ≡ other → P
kept P other apart fault e (inl same) known is = known (sym same ∙ is)
kept P other apart fault e (inr memory) known is = absurd (apart (sym memory ∙ is))

-- files in memory are clean, so that what is said of clean ones is said of these
module _ (policy : Policy) (file : SchemesFile) (start now : Files MemoryFile) (fault : OpenFault) where
  of_others : AreRefused over_memory policy file start fault now → fault ≡ OtherPolicy
      → IsOthersIn policy file (bytes_of start.log) (bytes_of start.db)
  of_others (unopened (inl store) how) is = absurd cc
  of_others (unopened (inr memory) how) is = absurd cc
  of_others (unadopted left found gone) is = (
    (file_state found.was).now,
    found.found (memory_files_are_clean found.was),
    found.unadopted.texts (memory_files_are_clean left) is,
  )

  of_bad : AreRefused over_memory policy file start fault now → fault ≡ BadRows
      → IsBadIn policy file (bytes_of start.log) (bytes_of start.db)
  of_bad (unopened (inl store) how) is = absurd cc
  of_bad (unopened (inr memory) how) is = absurd cc
  of_bad (unadopted left found gone) is = (
    (file_state found.was).now,
    found.found (memory_files_are_clean found.was),
    found.unadopted.bad (memory_files_are_clean left) is,
  )

pub returns-in-Ok-clause-sound : goal.returns-in-Ok-clause-sound
returns-in-Ok-clause-sound c =
    let base = c.in-Ok.base in
    let files = c.in_ok-files.files in
    let policy = c.args.design.now.policy.now in
    let file = c.args.design.now.file.now in (
      (state_of base).now,
      subst₂ (λ (log db : List ℕ). IsTakenOf (FindsHoldings (image log db)) policy file (state_of base).now)
          c.in_ok-files.ensures.log c.in_ok-files.ensures.db
          (base_is_taken (FindsHoldings (image_of over_memory files)) policy file base
          (c.in-Ok.ensures.over (c.into_files-files.ensures.clean refl))),
    )

pub returns-in-Err-clause-others : goal.returns-in-Err-clause-others
returns-in-Err-clause-others c =
    let policy = c.args.design.now.policy.now in
    let file = c.args.design.now.file.now in
    subst₂ (λ (log db : List ℕ). c.fault_in_memory.result ≡ OtherPolicy → IsOthersIn policy file log db)
    c.in_ok-files.ensures.log c.in_ok-files.ensures.db
    (kept _ OtherPolicy (λ e. absurd cc) c.in-Err.fault c.fault_in_memory.result c.fault_in_memory.ensures
    (of_others policy file c.in_ok-files.files c.in-Err.files c.in-Err.fault c.in-Err.ensures.refused))

pub returns-in-Err-clause-bad : goal.returns-in-Err-clause-bad
returns-in-Err-clause-bad c =
    let policy = c.args.design.now.policy.now in
    let file = c.args.design.now.file.now in
    subst₂ (λ (log db : List ℕ). c.fault_in_memory.result ≡ BadRows → IsBadIn policy file log db)
    c.in_ok-files.ensures.log c.in_ok-files.ensures.db
    (kept _ BadRows (λ e. absurd cc) c.in-Err.fault c.fault_in_memory.result c.fault_in_memory.ensures
    (of_bad policy file c.in_ok-files.files c.in-Err.files c.in-Err.fault c.in-Err.ensures.refused))
