-- What opening a store comes to, by the bytes of its two files.
use Rattle.std.specs.Prelude.{ℕ, List, Option, Some, None}
use Rattle.sqlite.specs.Effect.{Database}
use Rattle.sqlite.specs.Recovery.{Image}
use Rattle.mls_lattice.specs.Policy.{Policy}
use Rattle.mls_scheme.specs.declared.file.SchemesFile.{SchemesFile}
use Rattle.mls_filterview.specs.Content.{Content}
use Rattle.mls_fragments.specs.Holdings.{IsTakenOf}
use Rattle.mls_fragments.specs.declared.open_fault.OpenFault.{OpenFault}
use Rattle.mls_fragments.specs.declared.open_fault.OpenFault.TheVariants.{Store, OtherPolicy, BadRows}
use Rattle.mls_fragments.specs.Again.{FindsHoldings}
use Rattle.mls_fragments.specs.Opening.{IsFoundIn, IsOfOthers, IsBad}

-- the contents of the two files
abbrev pub image : List ℕ → List ℕ → Image
image log db = record { log = log; db = db }

module _ (policy : Policy) (file : SchemesFile) (log db : List ℕ) where
  -- a database that the files hold
  abbrev pub IsHeld : (Database → Type 0) → Type 0
  IsHeld P = (found : Database) × IsFoundIn (image log db) found × P found

  -- content is taken of them
  abbrev pub IsSoundIn : Type 0
  IsSoundIn = (c : Content) × IsTakenOf (FindsHoldings (image log db)) policy file c

  abbrev pub IsOthersIn : Type 0
  IsOthersIn = IsHeld (IsOfOthers policy file)

  abbrev pub IsBadIn : Type 0
  IsBadIn = IsHeld (IsBad policy file)

  -- the store is opened; or it is no database; or it is of others; or its tables or rows are bad
  pub data IsDiagnosis : Option OpenFault → Type 0 where
    sound : IsSoundIn → IsDiagnosis None
    damaged : IsDiagnosis (Some Store)
    of_others : IsOthersIn → IsDiagnosis (Some OtherPolicy)
    bad : IsBadIn → IsDiagnosis (Some BadRows)
