-- What a job reads before it does anything, and why an input of it is refused.
use Rattle.std.specs.Prelude.{◌≡◌, ℕ, List, Option, true, false, ⊤}
use Rattle.std.specs.List.{AllByRecursion}
use Rattle.mls_lattice.specs.Name.{is_name}
use Rattle.mls_lattice.specs.Policy.{Policy}
use Rattle.mls_translang.specs.declared.event.Event.{Event}
use Rattle.mls_translang.specs.Event.{EventFits}
use Rattle.mls_translang.specs.Tx.{Tx}
use Rattle.mls_translang.specs.Fits.{IsReadUnder}
use Rattle.mls_certcheck.specs.Reading.{Block}
use Rattle.mls_host.specs.declared.words.Job.{Job}
use Rattle.mls_host.specs.declared.words.Task.{Task}
use Rattle.mls_host.specs.declared.words.Task.TheVariants.{Shell}
use Rattle.mls_host.specs.Words.{named}
use Rattle.mls_host.specs.declared.job.Setting.{Setting}
use Rattle.mls_host.specs.declared.job.Inputs.{Inputs}
use Rattle.mls_host.specs.declared.reason.Reason.{Reason}
use Rattle.mls_host.specs.declared.reason.Reason.TheVariants.{User}
use Rattle.mls_host.specs.Hosting.{Hosting}
use Rattle.mls_host.specs.Inputs.{IsPolicyOf, AreSchemesOf, IsReader, AreTransactionsFrom, AreCertificatesFrom}
use Rattle.mls_host.specs.Inputs.{AreEventsOf}
use Rattle.mls_host.specs.Causes.{IsPolicyRefused, IsReaderUnknown, AreSchemesRefused, AreTransactionsRefused}
use Rattle.mls_host.specs.Causes.{AreCertificatesRefused, AreEventsRefused}

-- ---- users

-- the user of a shell has a name
abbrev pub HasUser : Task → Type 0
HasUser (Shell label user) = is_name user.now ≡ true
HasUser task = ⊤

abbrev pub IsUserRefused : Task → Reason → Type 0
IsUserRefused (Shell label user) reason = (is_name user.now ≡ false) × (reason ≡ User)
IsUserRefused task reason = ⊥

-- ---- what is read

module _ (h : Hosting) (job : Job) where
  pub record IsSetting (s : Setting) : Type 0 where
    pub policy_is : IsPolicyOf h.gives job.documents s.policy
    pub reader_is : IsReader s.policy job.task s.reader
    pub schemes_are : AreSchemesOf h.gives job.documents s.policy s.file

  pub record AreContents (s : Setting) (txs : List Tx) (blocks : List Block) (events : List Event) : Type 0 where
    pub user : HasUser job.task
    pub txs_are : AreTransactionsFrom h.gives (named job.files.transactions) s.policy s.file.schemes txs
    pub blocks_are : AreCertificatesFrom h.gives (named job.files.certificates) blocks
    pub events_are : AreEventsOf h.gives job.task (named job.files.script) s.policy s.file.schemes events

  abbrev pub AreInputs : Inputs → Type 0
  AreInputs i = IsSetting i.setting × AreContents i.setting i.transactions i.certificates i.events

-- ---- what is known of it

-- transactions and events fit the policy and the schemes
pub record FitSetting (s : Setting) (txs : List Tx) (events : List Event) : Type 0 where
  pub read : AllByRecursion (IsReadUnder s.policy s.file.schemes) txs
  pub fits : AllByRecursion (EventFits s.policy s.file.schemes) events

-- ---- what is refused

module _ (h : Hosting) (job : Job) where
  -- the policy is refused; or it is read, and no label has the reader's name; or the schemes are refused
  pub data IsSettingRefused (reason : Reason) : Type 0 where
    no_policy : IsPolicyRefused h job.documents reason → IsSettingRefused reason
    no_label : (policy : Policy) → IsPolicyOf h.gives job.documents policy → IsReaderUnknown policy job.task reason
        → IsSettingRefused reason
    no_schemes : (policy : Policy) (reader : Option ℕ) → IsPolicyOf h.gives job.documents policy
        → IsReader policy job.task reader → AreSchemesRefused h job.documents policy reason → IsSettingRefused reason

  -- each behind what was read before it: the user, the transactions, the certificates, the script
  pub data AreContentsRefused (s : Setting) (reason : Reason) : Type 0 where
    no_user : IsUserRefused job.task reason → AreContentsRefused s reason
    no_transactions : HasUser job.task
        → AreTransactionsRefused h (named job.files.transactions) s.policy s.file.schemes reason
        → AreContentsRefused s reason
    no_certificates : (txs : List Tx) → HasUser job.task
        → AreTransactionsFrom h.gives (named job.files.transactions) s.policy s.file.schemes txs
        → AreCertificatesRefused h (named job.files.certificates) reason → AreContentsRefused s reason
    no_script : (txs : List Tx) (blocks : List Block) → HasUser job.task
        → AreTransactionsFrom h.gives (named job.files.transactions) s.policy s.file.schemes txs
        → AreCertificatesFrom h.gives (named job.files.certificates) blocks
        → AreEventsRefused h job.task (named job.files.script) s.policy s.file.schemes reason
        → AreContentsRefused s reason

  -- why an input of a job is refused; memory may stand in place of any cause
  pub data AreInputsRefused (reason : Reason) : Type 0 where
    no_setting : IsSettingRefused reason → AreInputsRefused reason
    no_contents : (s : Setting) → IsSetting h job s → AreContentsRefused s reason → AreInputsRefused reason
