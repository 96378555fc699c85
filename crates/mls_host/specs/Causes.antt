-- Why a command is given up before anything is written: an input is refused, a word names nothing, a store is
-- not opened, or memory runs out.
use Rattle.std.specs.Prelude.{◌≡◌, ◌≢◌, ℕ, List, Option, Some, None, Err, ⊤, position, bytes_eq}
use Rattle.toml.specs.Data.{Members}
use Rattle.mls_lattice.specs.Policy.{Policy}
use Rattle.mls_lattice.specs.ReadsPolicy.{IsDocument, HasFault}
use Rattle.mls_lattice.specs.declared.fault.PolicyFault.{PolicyFault}
use Rattle.mls_lattice.specs.declared.fault.PolicyFault.TheVariants as policies
use Rattle.mls_scheme.specs.Scheme.{Schemes}
use Rattle.mls_scheme.specs.Reading.{schemes_at}
use Rattle.mls_scheme.specs.declared.file.SchemesFile.{SchemesFile}
use Rattle.mls_scheme.specs.declared.fault.SchemeFault.{SchemeFault}
use Rattle.mls_scheme.specs.declared.fault.SchemeFault.TheVariants as schemes
use Rattle.mls_translang.specs.Tx.{Tx}
use Rattle.mls_translang.specs.Tells.{Tells}
use Rattle.mls_parser.specs.Parsing.{parse_at}
use Rattle.mls_parser.specs.declared.fault.TextFault.{TextFault}
use Rattle.mls_parser.specs.declared.fault.TextCause.TheVariants as texts
use Rattle.mls_certcheck.specs.Reading.{file_in}
use Rattle.mls_certcheck.specs.declared.fault.CertFault.{CertFault}
use Rattle.mls_certcheck.specs.declared.fault.CertCause.TheVariants as certs
use Rattle.mls_script.specs.Reading.{script_at}
use Rattle.mls_script.specs.declared.fault.ScriptFault.{ScriptFault}
use Rattle.mls_script.specs.declared.fault.ScriptCause.TheVariants as scripts
use Rattle.mls_fragments.specs.declared.open_fault.OpenFault.{OpenFault}
use Rattle.mls_fragments.specs.declared.open_fault.OpenFault.TheVariants as stores
use Rattle.mls_host.specs.declared.words.Documents.{Documents}
use Rattle.mls_host.specs.declared.words.Task.{Task}
use Rattle.mls_host.specs.declared.words.Task.TheVariants.{Run, Shell}
use Rattle.mls_host.specs.Words.{at_of}
use Rattle.mls_host.specs.declared.samples.TheConstants.{POLICY, SCHEMES}
use Rattle.mls_host.specs.declared.host.HostFault.{HostFault}
use Rattle.mls_host.specs.declared.reason.Role.{Role}
use Rattle.mls_host.specs.declared.reason.Role.TheVariants as role
use Rattle.mls_host.specs.declared.reason.Reason.{Reason}
use Rattle.mls_host.specs.declared.reason.Reason.TheVariants.{Policy as OfPolicy, Reader, Label, Schemes as OfSchemes}
use Rattle.mls_host.specs.declared.reason.Reason.TheVariants.{Transactions, Certificates, Script, Store, Memory}
use Rattle.mls_host.specs.Hosting.{Hosting}
use Rattle.mls_host.specs.Reason.{input_reason}

-- ---- bytes that a reader refuses, and why; memory may stand in place of any cause

abbrev pub IsNoDocument : List ℕ → Type 0
IsNoDocument bytes = (document : Members) → IsDocument bytes document → ⊥

-- they are no document, or the document's first fault
abbrev pub IsPolicyFault : List ℕ → PolicyFault → Type 0
IsPolicyFault bytes policies.Memory = ⊤
IsPolicyFault bytes policies.NotToml = IsNoDocument bytes
IsPolicyFault bytes fault = HasFault bytes fault

abbrev pub IsSchemeFault : Policy → List ℕ → SchemeFault → Type 0
IsSchemeFault policy bytes schemes.Memory = ⊤
IsSchemeFault policy bytes schemes.NotToml = IsNoDocument bytes
IsSchemeFault policy bytes fault =
    ¬ IsNoDocument bytes × ((document : Members) → IsDocument bytes document → schemes_at policy document ≡ Err fault)

abbrev pub RefusesPolicy : List ℕ → Reason → Type 0
RefusesPolicy bytes reason = (fault : PolicyFault) × (reason ≡ OfPolicy fault) × IsPolicyFault bytes fault

abbrev pub RefusesSchemes : Policy → List ℕ → Reason → Type 0
RefusesSchemes policy bytes reason =
    (fault : SchemeFault) × (reason ≡ OfSchemes fault) × IsSchemeFault policy bytes fault

-- the first fault, with its place
abbrev pub RefusesTransactions : Policy → Schemes → List ℕ → Reason → Type 0
RefusesTransactions policy schemes bytes reason =
    (fault : TextFault) × (reason ≡ Transactions fault)
    × (fault.cause ≢ texts.Memory → parse_at policy schemes bytes ≡ Err fault)

abbrev pub RefusesCertificates : List ℕ → Reason → Type 0
RefusesCertificates bytes reason =
    (fault : CertFault) × (reason ≡ Certificates fault) × (fault.cause ≢ certs.Memory → file_in bytes ≡ Err fault)

abbrev pub RefusesScript : Policy → Schemes → List ℕ → Reason → Type 0
RefusesScript policy schemes bytes reason =
    (fault : ScriptFault) × (reason ≡ Script fault)
    × (fault.cause ≢ scripts.Memory → script_at policy schemes bytes ≡ Err fault)

-- the transactions of a text are refused; or they are told, and the certificates of another are refused; or memory
pub data AreTextsRefused (transactions certificates : List ℕ) (policy : Policy) (schemes : Schemes)
    (reason : Reason) : Type 0 where
  not_told : RefusesTransactions policy schemes transactions reason
      → AreTextsRefused transactions certificates policy schemes reason
  not_certified : (txs : List Tx) → Tells policy schemes transactions txs → RefusesCertificates certificates reason
      → AreTextsRefused transactions certificates policy schemes reason
  not_kept : reason ≡ Memory → AreTextsRefused transactions certificates policy schemes reason

-- ---- names

-- what is told where no label has the name for which a task prints, or at which its shell is
abbrev pub no_reader : Task → Reason
no_reader (Shell label user) = Label
no_reader task = Reader

abbrev pub IsReaderUnknown : Policy → Task → Reason → Type 0
IsReaderUnknown policy task reason =
    (name : List ℕ) × (at_of task ≡ Some name) × (position (λ l. bytes_eq l.name name) policy.labels ≡ None)
    × (reason ≡ no_reader task)

-- ---- inputs, and stores

module _ (h : Hosting) where
  abbrev pub IsNotGiven : Role → Option (List ℕ) → Reason → Type 0
  IsNotGiven role source reason = (fault : HostFault) × h.lacks source fault × (reason ≡ input_reason role fault)

  -- `Refuses bytes reason`: why a reader refuses bytes. An input is refused
  -- where none are given, or bytes that the reader refuses
  pub data IsInputRefused (role : Role) (source : Option (List ℕ)) (Refuses : List ℕ → Reason → Type 0)
      (reason : Reason) : Type 0 where
    not_given : IsNotGiven role source reason → IsInputRefused role source Refuses reason
    not_read : (bytes : List ℕ) → h.gives source bytes → Refuses bytes reason
        → IsInputRefused role source Refuses reason

  -- the policy and the schemes: those of the samples, or of files
  abbrev pub IsPolicyRefused : Option Documents → Reason → Type 0
  IsPolicyRefused None reason = RefusesPolicy POLICY.now reason
  IsPolicyRefused (Some d) reason = IsInputRefused role.Policy (Some d.policy.now) RefusesPolicy reason

  abbrev pub AreSchemesRefused : Option Documents → Policy → Reason → Type 0
  AreSchemesRefused None policy reason = RefusesSchemes policy SCHEMES.now reason
  AreSchemesRefused (Some d) policy reason =
      IsInputRefused role.Schemes (Some d.schemes.now) (RefusesSchemes policy) reason

  abbrev pub IsScriptRefused : Option (List ℕ) → Policy → Schemes → Reason → Type 0
  IsScriptRefused source policy schemes reason = IsInputRefused role.Script source (RefusesScript policy schemes) reason

  -- none is refused without a path
  abbrev pub AreTransactionsRefused : Option (List ℕ) → Policy → Schemes → Reason → Type 0
  AreTransactionsRefused None policy schemes reason = ⊥
  AreTransactionsRefused (Some path) policy schemes reason =
      IsInputRefused role.Transactions (Some path) (RefusesTransactions policy schemes) reason

  abbrev pub AreCertificatesRefused : Option (List ℕ) → Reason → Type 0
  AreCertificatesRefused None reason = ⊥
  AreCertificatesRefused (Some path) reason = IsInputRefused role.Certificates (Some path) RefusesCertificates reason

  abbrev pub AreEventsRefused : Task → Option (List ℕ) → Policy → Schemes → Reason → Type 0
  AreEventsRefused (Run at is_table) source policy schemes reason = IsScriptRefused source policy schemes reason
  AreEventsRefused task source policy schemes reason = ⊥

  -- a store in memory lacks memory alone; one at a path is not opened for what the host says
  abbrev pub IsBarred : Policy → SchemesFile → Option (List ℕ) → Reason → Type 0
  IsBarred policy file None reason = reason ≡ Store stores.Memory
  IsBarred policy file (Some path) reason = (fault : OpenFault) × h.bars path policy file fault × (reason ≡ Store fault)

  -- what is done over a store is not begun: there is no memory for what it needs; or its store is barred
  pub data IsNotBegun (policy : Policy) (file : SchemesFile) (store : Option (List ℕ)) (reason : Reason) : Type 0 where
    no_memory : reason ≡ Memory → IsNotBegun policy file store reason
    no_store : IsBarred policy file store reason → IsNotBegun policy file store reason
