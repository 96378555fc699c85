-- What is told of the store that a command names, where all its inputs are accepted.
use Rattle.std.specs.Prelude.{◌≡◌, ◌≢◌, ℕ, Bool, true, false, List, [], ◌++◌, Option, Some, None}
use Rattle.mls_host.specs.declared.job.Setting.{Setting}
use Rattle.mls_host.specs.declared.words.Task.{Task}
use Rattle.mls_host.specs.declared.words.Task.TheVariants.{Turn}
use Rattle.mls_fragments.specs.declared.open_fault.OpenFault.{OpenFault}
use Rattle.mls_fragments.specs.declared.open_fault.OpenFault.TheVariants as stores
use Rattle.mls_host.specs.declared.host.StoreCause.{StoreCause}
use Rattle.mls_host.specs.declared.host.StoreCause.TheVariants.{Memory}
use Rattle.mls_host.specs.declared.ending.Ending.{Ending}
use Rattle.mls_host.specs.declared.ending.Ending.TheVariants.{Refused}
use Rattle.mls_host.specs.declared.reason.Reason.TheVariants.{Store}
use Rattle.mls_host.specs.Hosting.{Hosting}
use Rattle.mls_host.specs.Reason.{reason_text}
use Rattle.mls_host.specs.Ending.{ending_if}
use Rattle.mls_explain.specs.Diagnosis.{IsDiagnosis}
use Rattle.mls_command.specs.Showing.{is_some_text}
use Rattle.mls_command.specs.declared.looking.TheConstants.{ACCEPTED}

-- whether a task makes its store, where there is none
abbrev pub makes_store : Task → Bool
makes_store (Turn at) = false
makes_store task = true

-- what is found of a store with these bytes: that there is none, where none is made; or what opening it comes to
pub data IsSeen (s : Setting) (task : Task) (log db : List ℕ) : Option OpenFault → Type 0 where
  absent : makes_store task ≡ false → log ≡ [] → db ≡ [] → IsSeen s task log db (Some stores.Store)
  opened : (fault : Option OpenFault) → IsDiagnosis s.policy s.file log db fault → IsSeen s task log db fault

-- the same of the store at a path; or why its files are not shown, but for want of memory
pub data IsSight (h : Hosting) (s : Setting) (task : Task) (path : List ℕ) : Option OpenFault → Type 0 where
  hidden : (cause : StoreCause) → h.hides path cause → cause ≢ Memory → IsSight h s task path (Some stores.Store)
  shown : (log db : List ℕ) (fault : Option OpenFault) → h.shows path log db → IsSeen s task log db fault
      → IsSight h s task path fault

-- the line that tells that the inputs are accepted, or why the store is not opened
abbrev pub found_text : Option OpenFault → List ℕ
found_text None = ACCEPTED.now
found_text (Some fault) = reason_text (Store fault)

-- how that ends, where this is said of fields that nobody reads
abbrev pub found_ending : Option OpenFault → List ℕ → Ending
found_ending None ignored = ending_if (is_some_text ignored)
found_ending (Some fault) ignored = Refused

module _ (h : Hosting) (s : Setting) (task : Task) where
  -- what is found, where the task names no store, or one
  abbrev pub IsFound : Option (List ℕ) → Option OpenFault → Type 0
  IsFound None fault = fault ≡ None
  IsFound (Some path) fault = IsSight h s task path fault

  -- what is told of it begins with that line, and ends with what is said of the fields that nobody reads
  pub record IsStoreAccount (Ignores : List ℕ → Type 0) (store : Option (List ℕ)) (text told : List ℕ) (end : Ending)
      : Type 0 where
    pub fault : Option OpenFault
    pub more : List ℕ
    pub ignored : List ℕ
    pub found : IsFound store fault
    pub ignored_are : Ignores ignored
    pub text_is : text ≡ found_text fault ++ (more ++ ignored)
    pub told_is : told ≡ []
    pub end_is : end ≡ found_ending fault ignored
