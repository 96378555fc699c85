-- What is read from the inputs that a host gives: a file by its path, and the standard input.
use Rattle.std.specs.Prelude.{◌≡◌, ℕ, List, [], Option, Some, None, position, bytes_eq}
use Rattle.mls_lattice.specs.Policy.{Policy}
use Rattle.mls_lattice.specs.ReadsPolicy.{ReadsPolicy}
use Rattle.mls_scheme.specs.Scheme.{Schemes}
use Rattle.mls_scheme.specs.declared.file.SchemesFile.{SchemesFile}
use Rattle.mls_scheme.specs.Document.{ReadsSchemes}
use Rattle.mls_translang.specs.declared.event.Event.{Event}
use Rattle.mls_script.specs.Script.{ReadsScript}
use Rattle.mls_translang.specs.Tx.{Tx}
use Rattle.mls_translang.specs.Tells.{Tells}
use Rattle.mls_certcheck.specs.Reading.{Block}
use Rattle.mls_certcheck.specs.Spelling.{IsFile, file_text}
use Rattle.mls_certcheck.specs.declared.stored.Stored.{Stored}
use Rattle.mls_host.specs.declared.samples.TheConstants.{POLICY, SCHEMES}
use Rattle.mls_host.specs.declared.words.Documents.{Documents}
use Rattle.mls_host.specs.declared.words.Task.{Task}
use Rattle.mls_host.specs.declared.words.Task.TheVariants.{Run}
use Rattle.mls_host.specs.Words.{at_of}
use Rattle.mls_host.specs.Storing.{AreStoredWith}

-- none without a name; with one, the label of the name
abbrev pub IsNamed : Policy → Option (List ℕ) → Option ℕ → Type 0
IsNamed policy None reader = reader ≡ None
IsNamed policy (Some name) reader =
    (label : ℕ) × (reader ≡ Some label) × (position (λ l. bytes_eq l.name name) policy.labels ≡ Some label)

abbrev pub IsReader : Policy → Task → Option ℕ → Type 0
IsReader policy task reader = IsNamed policy (at_of task) reader

-- the transactions that a text tells, each with the first certificate of
-- its name in another text where that holds for it
pub record AreStoredOf (transactions certificates : List ℕ) (policy : Policy) (schemes : Schemes)
    (stored : List Stored) : Type 0 where
  pub txs : List Tx
  pub blocks : List Block
  pub told : Tells policy schemes transactions txs
  pub certified : IsFile blocks × (certificates ≡ file_text blocks)
  pub each : AreStoredWith policy blocks txs stored

-- `Supplies source bytes`: the host gives these bytes for the file at a path, or, with no path, for the standard input
module _ (Supplies : Option (List ℕ) → List ℕ → Type 0) where
  -- the host gives bytes there that say so
  abbrev pub IsFrom : Option (List ℕ) → (List ℕ → Type 0) → Type 0
  IsFrom source Says = (bytes : List ℕ) × Supplies source bytes × Says bytes

  -- the policy and the schemes: those of the samples, or of files
  abbrev pub IsPolicyOf : Option Documents → Policy → Type 0
  IsPolicyOf None policy = ReadsPolicy POLICY.now policy
  IsPolicyOf (Some d) policy = IsFrom (Some d.policy.now) (λ bytes. ReadsPolicy bytes policy)

  abbrev pub AreSchemesOf : Option Documents → Policy → SchemesFile → Type 0
  AreSchemesOf None policy file = ReadsSchemes policy SCHEMES.now file.version file.schemes
  AreSchemesOf (Some d) policy file =
      IsFrom (Some d.schemes.now) (λ bytes. ReadsSchemes policy bytes file.version file.schemes)

  -- the events of a script
  abbrev pub IsScriptFrom : Option (List ℕ) → Policy → Schemes → List Event → Type 0
  IsScriptFrom source policy schemes events = IsFrom source (λ script. ReadsScript policy schemes script events)

  abbrev pub AreToldIn : List ℕ → Policy → Schemes → List Tx → Type 0
  AreToldIn path policy schemes txs = IsFrom (Some path) (λ bytes. Tells policy schemes bytes txs)

  abbrev pub AreBlocksIn : List ℕ → List Block → Type 0
  AreBlocksIn path blocks = IsFrom (Some path) (λ bytes. IsFile blocks × (bytes ≡ file_text blocks))

  -- none without a path
  abbrev pub AreTransactionsFrom : Option (List ℕ) → Policy → Schemes → List Tx → Type 0
  AreTransactionsFrom None policy schemes txs = txs ≡ []
  AreTransactionsFrom (Some path) policy schemes txs = AreToldIn path policy schemes txs

  abbrev pub AreCertificatesFrom : Option (List ℕ) → List Block → Type 0
  AreCertificatesFrom None blocks = blocks ≡ []
  AreCertificatesFrom (Some path) blocks = AreBlocksIn path blocks

  -- those of the script of a run; no other task has any
  abbrev pub AreEventsOf : Task → Option (List ℕ) → Policy → Schemes → List Event → Type 0
  AreEventsOf (Run at is_table) source policy schemes events = IsScriptFrom source policy schemes events
  AreEventsOf task source policy schemes events = events ≡ []
