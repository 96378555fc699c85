-- Calls of the program over one store, one after another: each is a step of a history, a run, a shell, a desk or a
-- turning
-- of the audit list alike; and before a call the store may be opened under later files, which is a step too.
use Rattle.std.specs.Prelude.{◌≡◌, ◌⊎◌, ℕ, Bool, true, List, [], ◌∷◌, Option, Some, Result, Ok, Err}
use Rattle.mls_lattice.specs.Labels.{AreDistinct}
use Rattle.mls_lattice.specs.Policy.{Policy, labels_of}
use Rattle.mls_scheme.specs.Scheme.{Schemes}
use Rattle.mls_scheme.specs.declared.file.SchemesFile.{SchemesFile}
use Rattle.mls_filterview.specs.Content.{Content}
use Rattle.mls_audit.specs.Sound.{IsSoundContent}
use Rattle.mls_fragments.specs.Holdings.{Holdings, Takes}
use Rattle.mls_fragments.specs.Migrating.{IsWidenedContent}
use Rattle.mls_certcheck.specs.Site.{site_of}
use Rattle.mls_machine.specs.History.{RunAt, run_at, run_start, run_end, IsSiteUnder}
use Rattle.mls_machine.specs.Laws.{KeepsIntegrity}
use Rattle.mls_machine.specs.Observation.{AgreeAt, PassesOnlyReleasesDown}
use Rattle.mls_translang.specs.declared.run_fault.RunFault.{RunFault}
use Rattle.mls_sessions.specs.Engine.{MayServe}
use Rattle.mls_host.specs.declared.ending.Ending.{Ending}
use Rattle.mls_host.specs.declared.job.Inputs.{Inputs}
use Rattle.mls_host.specs.declared.job.Setting.{Setting}
use Rattle.mls_host.specs.Hosting.{Hosted, IsClean, BeginsWith, IsKeptAt}
use Rattle.mls_runs.specs.Explaining.{Explaining}
use Rattle.mls_runs.specs.History.{IsHistory, world_of, run_to}
use Rattle.mls_runs.specs.ScriptRun.{site_of_setting, IsScriptRun}
use Rattle.mls_runs.specs.Shell.{opening, events_in, IsSilent}
use Rattle.mls_runs.specs.ShellRun.{shell_session_of, IsShellRun}
use Rattle.mls_runs.specs.DeskRun.{IsDeskRun}
use Rattle.mls_runs.specs.TurnRun.{IsTurnRun}

-- from a content to another, as a run leads of the events whose changes stand: integrity is kept, and no information
-- flows
-- down but what is released
pub record StoreStep (policy : Policy) (schemes : Schemes) (r : RunAt) (first left : Content) : Type 0 where
  pub site : IsSiteUnder (labels_of policy) schemes r.site
  pub left_by : run_end (world_of policy first) r ≡ world_of policy left
  pub sound : IsSoundContent policy schemes left
  pub integrity : KeepsIntegrity r.site (run_start (world_of policy first) r) r.events
  pub secret : PassesOnlyReleasesDown r.site (run_start (world_of policy first) r) r.events

module _ (policy : Policy) (schemes : Schemes) where
  -- steps, each from what the one before it left
  abbrev pub AreStoreSteps : List RunAt → Content → Content → Type 0
  AreStoreSteps [] first last = first ≡ last
  AreStoreSteps (r ∷ rs) first last =
      (left : Content) × StoreStep policy schemes r first left × AreStoreSteps rs left last

-- steps are a history
abbrev pub StepsAreHistories : Type 0
StepsAreHistories =
    (policy : Policy) (schemes : Schemes) → AreDistinct (labels_of policy) → (rs : List RunAt) (first last : Content)
    → AreStoreSteps policy schemes rs first last
    → IsHistory (labels_of policy) schemes rs (world_of policy first) (world_of policy last)

-- ---- a store that is opened under later files

-- two contents that look alike to a label do so still, once both are widened
abbrev pub WideningPassesNothingDown : Policy → Schemes → List ℕ → Content → Content → Type 0
WideningPassesNothingDown policy schemes counts first left =
    (c : ℕ) (other next : Content) → IsWidenedContent schemes counts other next
    → AgreeAt (labels_of policy) c (world_of policy first) (world_of policy other)
    → AgreeAt (labels_of policy) c (world_of policy left) (world_of policy next)

-- from a content to the same, each relation of which has its new attributes
pub record MigrationStep (policy : Policy) (schemes : Schemes) (counts : List ℕ) (first left : Content) : Type 0 where
  pub widened : IsWidenedContent schemes counts first left
  pub sound : IsSoundContent policy schemes left
  pub secret : WideningPassesNothingDown policy schemes counts first left

-- what a store has is taken as it was, or that is a step
abbrev pub OpeningsAreSteps : Type 0
OpeningsAreSteps =
    (policy : Policy) (file : SchemesFile) (had now : Holdings) → Takes policy file had now
    → IsSoundContent policy file.schemes now.content
    → (now.content ≡ had.content)
    ⊎ ((counts : List ℕ) × MigrationStep policy file.schemes counts had.content now.content)

-- ---- calls

-- the audit list is turned, and nothing else is done
abbrev pub turning_at : Setting → RunAt
turning_at s = record { site = site_of s.policy s.file.schemes []; turns = true; events = [] }

-- What `act` promises of a call over a store makes it a step; a turning that is given up is none.
pub record CallsAreSteps (x : Explaining) (h : Hosted) (W T : List ℕ → Type 0) : Type 0 where
  pub run : (i : Inputs) (store : Option (List ℕ)) (is_table : Bool) (end : Result (Unit {0}) RunFault)
      (a : IsScriptRun h i store is_table W end) (was : IsClean h store)
      → MayServe (site_of_setting i.setting a.stored)
      → StoreStep i.setting.policy i.setting.file.schemes
      (run_to (run_at (site_of_setting i.setting a.stored) i.events) end) (a.run was).first (a.run was).left
  pub shell : IsSilent h.echo → (i : Inputs) (store : Option (List ℕ)) (label user : List ℕ)
      (end : Result Ending RunFault) (a : IsShellRun x h i store label user W T end) (was : IsClean h store)
      → MayServe (site_of_setting i.setting a.stored)
      → let session = shell_session_of label user a.level h.before.is_terminal h.before.is_watched in
      let talk = (a.shell was).leads.talk in
      StoreStep i.setting.policy i.setting.file.schemes
      (run_to (run_at (site_of_setting i.setting a.stored) (opening session ∷ events_in talk.turns)) talk.run_end)
      (a.shell was).first (a.shell was).left
  pub desk : (i : Inputs) (store : Option (List ℕ)) (end : Result Ending RunFault)
      (a : IsDeskRun h i store W end) (was : IsClean h store) → MayServe (site_of_setting i.setting a.stored)
      → StoreStep i.setting.policy i.setting.file.schemes
      (run_at (site_of_setting i.setting a.stored) (a.desk was).leads.service.kept) (a.desk was).first (a.desk was).left
  pub turning : (s : Setting) (store : Option (List ℕ)) (a : IsTurnRun s W (Ok tt) h store) (was : IsClean h store)
      → AreDistinct (labels_of s.policy)
      → StoreStep s.policy s.file.schemes (turning_at s) (a.turned was).first (a.turned was).left
  pub none : (s : Setting) (store : Option (List ℕ)) (fault : RunFault) (a : IsTurnRun s W (Err fault) h store)
      (was : IsClean h store) → (a.turned was).first ≡ (a.turned was).left

-- what the store at a path kept after a call is what it keeps before the next, and no store keeps two contents
abbrev pub KeepsOne : Hosted → Hosted → List ℕ → Type 0
KeepsOne h k path = (a b : Holdings) → h.after.keeps path a → k.before.keeps path b → a ≡ b

-- A call under the same policy and schemes begins with what the call before it left.
abbrev pub CallsAreInTurn : Hosted → Hosted → Type 0
CallsAreInTurn h k =
    (path : List ℕ) → KeepsOne h k path → (policy : Policy) (file : SchemesFile) (left next : Content)
    → IsKeptAt h (Some path) left → IsSoundContent policy file.schemes left → BeginsWith k policy file (Some path) next
    → left ≡ next
