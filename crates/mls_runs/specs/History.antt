-- What a history of runs over the files of one store writes, what it begins with and what it leaves.
use Rattle.std.specs.Prelude.{◌≡◌, ℕ, suc, List, [], ◌∷◌, ◌++◌, length, IfSome, Option, MatchOption, Result, Ok, Err}
use Rattle.std.specs.List.{concat}
use Rattle.sqlite_disk.specs.declared.Disk.{Ghosts}
use Rattle.sqlite_disk.specs.declared.Files.{Files}
use Rattle.sqlite.specs.Files.{image_of}
use Rattle.sqlite.specs.WalReads.{AreClean}
use Rattle.mls_lattice.specs.Policy.{Policy, labels_of}
use Rattle.mls_scheme.specs.Scheme.{Schemes}
use Rattle.mls_scheme.specs.declared.file.SchemesFile.{SchemesFile}
use Rattle.mls_filterview.specs.Content.{Content}
use Rattle.mls_audit.specs.Sound.{IsSoundContent}
use Rattle.mls_tables.specs.declared.rows.MetaRow.{MetaRow}
use Rattle.mls_fragments.specs.Again.{AreKept, AreRefused, AreUnclosed, FindsHoldings}
use Rattle.mls_fragments.specs.Based.{BaseState, state_of}
use Rattle.mls_fragments.specs.Holdings.{holdings_of, IsTakenOf}
use Rattle.mls_fragments.specs.declared.open_fault.OpenFault.{OpenFault}
use Rattle.mls_machine.specs.declared.form.Audience.{Audience}
use Rattle.mls_machine.specs.Machine.{World, no_sessions}
use Rattle.mls_machine.specs.Observation.{EventsFit}
use Rattle.mls_certcheck.specs.Site.{AreRead, AreCertified, site_of}
use Rattle.mls_machine.specs.History.{RunAt, run_at, history_bytes, history_end, KeepsIntegrityInHistory}
use Rattle.mls_machine.specs.History.{PassesOnlyReleasesDownInHistory, ShowsOnlyReleasesInHistory}
use Rattle.mls_lattice.specs.Labels.{Labels}
use Rattle.mls_sessions.specs.World.{entries_in}
use Rattle.mls_translang.specs.declared.run_fault.RunFault.{RunFault}
use Rattle.mls_runs.specs.declared.history.Run.{Run}
use Rattle.mls_runs.specs.declared.history.HistoryCause.{HistoryCause}
use Rattle.mls_runs.specs.declared.history.HistoryCause.TheVariants.{Unopened, Stopped, NotClosed}
use Rattle.mls_runs.specs.declared.history.HistoryFault.{HistoryFault}
use Rattle.mls_runs.specs.Running.{standing, IsRun}

-- ---- runs of a history

module _ (policy : Policy) (schemes : Schemes) where
  abbrev pub run_of : Run → RunAt
  run_of run = run_at (site_of policy schemes run.stored) run.events.items

  -- what it stores was read and checked, and its events fit
  pub record IsPrepared (run : Run) : Type 0 where
    pub read : AreRead (site_of policy schemes run.stored)
    pub certified : AreCertified (site_of policy schemes run.stored)
    pub fits : EventsFit (site_of policy schemes run.stored) run.events.items

-- why a run that stopped breaks its history off
abbrev pub cause_of : Result (Unit {0}) RunFault → Result (Unit {0}) HistoryCause
cause_of (Ok _) = Ok tt
cause_of (Err fault) = Err (Stopped fault)

-- the tuples and the entries of a content, and no session
abbrev pub world_of : Policy → Content → World
world_of policy c = record { db = c.db; sessions = no_sessions; audit = entries_in (length policy.labels) c.audit }

-- a run up to where it ended or stopped
abbrev pub run_to : RunAt → Result (Unit {0}) RunFault → RunAt
run_to r end = record r { events = standing r.events end }

-- runs are a history from one world to another
pub record IsHistory (ls : Labels) (schemes : Schemes) (rs : List RunAt) (first last : World) : Type 0 where
  pub left_by : history_end first rs ≡ last
  -- each database on the way has the four integrity properties
  pub integrity : KeepsIntegrityInHistory first rs
  -- no information flows down but what is released
  pub secret : PassesOnlyReleasesDownInHistory ls schemes first rs

-- ---- histories of whole runs

-- from one content to another
pub record IsHistoryRun (policy : Policy) (schemes : Schemes) (audience : Audience) (rs : List RunAt)
    (Wrote : List ℕ → Type 0) (first left : Content) : Type 0 where
  pub begins : IsSoundContent policy schemes first
  -- what an audience is shown of all runs
  pub written : Wrote (concat (history_bytes (labels_of policy) audience (world_of policy first) rs))
  -- what is left; each database on the way has the four integrity properties;
  -- no information flows down but what is released
  pub history : IsHistory (labels_of policy) schemes rs (world_of policy first) (world_of policy left)
  -- a next run may begin with what is left
  pub sound : IsSoundContent policy schemes left
  -- the bytes that a reader is shown are the same for any other such history
  pub shown : IfSome audience.reader
      (λ c. ShowsOnlyReleasesInHistory (labels_of policy) schemes c (world_of policy first) rs)

-- ---- over the files of a store, which are closed and opened between runs

-- the files keep this content, with a row that describes it
abbrev pub KeepContent : {D : Type 0} → Ghosts D → Files D → Content → Type 0
KeepContent g files left = (row : MetaRow) × AreKept g files (holdings_of row left)

module _ {D : Type 0} (g : Ghosts D) (policy : Policy) (file : SchemesFile) where
  -- the files are clean, and the content is taken of what is found in them
  abbrev pub BeginsIn : Files D → Content → Type 0
  BeginsIn files first =
      AreClean g files.log files.db × IsTakenOf (FindsHoldings (image_of g files)) policy file first

  module _ (audience : Audience) (start : Files D) where
    -- whole runs, from what is found in the files to what they keep
    pub record AreRunsKept (rs : List RunAt) (Wrote : List ℕ → Type 0) (now : Files D) : Type 0 where
      pub first : Content
      pub left : Content
      pub begins : BeginsIn start first
      pub runs : IsHistoryRun policy file.schemes audience rs Wrote first left
      pub kept : KeepContent g now left

    -- whole runs, if the files are clean at the end; where there are none nothing is written, and the files are as they
    -- were
    abbrev pub AreRunsOver : List RunAt → (List ℕ → Type 0) → Files D → Type 0
    AreRunsOver [] Wrote now = Wrote [] × (now ≡ start)
    AreRunsOver (r ∷ rs) Wrote now = AreClean g now.log now.db → AreRunsKept (r ∷ rs) Wrote now

    -- whole runs, and then one that ended or stopped, which began with what they left
    pub record IsRunAfter (rs : List RunAt) (r : RunAt) (Wrote : List ℕ → Type 0)
        (end : Result (Unit {0}) RunFault) (left : Content) : Type 0 where
      pub first : Content
      pub last : Content
      pub bytes : List ℕ
      pub begins : BeginsIn start first
      pub before : IsHistoryRun policy file.schemes audience rs (λ text. bytes ≡ text) first last
      pub run : IsRun r.site audience r.events (λ part. Wrote (bytes ++ part)) end last left
      -- together they are a history, of the last with the events whose changes stand
      pub stands :
          IsHistory (labels_of policy) file.schemes (rs ++ run_to r end ∷ []) (world_of policy first)
          (world_of policy left)

    -- whole runs, and then no base was made of the files as they left them: why, and what became of them
    pub record IsUnopenedAfter (rs : List RunAt) (Wrote : List ℕ → Type 0) (now : Files D)
        (fault : OpenFault) : Type 0 where
      pub was : Files D
      pub runs : AreRunsOver rs Wrote was
      pub refused : AreRefused g policy file was fault now

    -- whole runs, and then one that ended or stopped and left a base that was not closed, and its files
    pub record IsUnclosedAfter (rs : List RunAt) (r : RunAt) (Wrote : List ℕ → Type 0) (now : Files D)
        (base : BaseState) : Type 0 where
      pub run : AreClean g now.log now.db
          → (end : Result (Unit {0}) RunFault) × IsRunAfter rs r Wrote end (state_of base).now
      -- they keep what it had where its connection was open
      pub files : AreUnclosed g base now

    -- a run after others for which the store was not opened; or that stopped, and the files keep what it left; or whose
    -- base was not closed
    abbrev pub IsBrokenOff : List RunAt → RunAt → (List ℕ → Type 0) → Files D → Option BaseState → HistoryCause → Type 0
    IsBrokenOff rs r Wrote now unclosed (Unopened fault) = IsUnopenedAfter rs Wrote now fault
    IsBrokenOff rs r Wrote now unclosed (Stopped fault) =
        AreClean g now.log now.db → (left : Content) × IsRunAfter rs r Wrote (Err fault) left × KeepContent g now left
    IsBrokenOff rs r Wrote now unclosed NotClosed = MatchOption unclosed ⊥ (IsUnclosedAfter rs r Wrote now)

    -- it is one of the runs, by its number from 1
    pub record IsHistoryFault (rs : List RunAt) (Wrote : List ℕ → Type 0) (now : Files D)
        (unclosed : Option BaseState) (fault : HistoryFault) : Type 0 where
      pub before : List RunAt
      pub run : RunAt
      pub after : List RunAt
      pub all : rs ≡ before ++ run ∷ after
      pub number : fault.run ≡ suc (length before)
      pub broken : IsBrokenOff before run Wrote now unclosed fault.cause
