-- Two runs that print for one reader, two shells and two desks, over stores that look alike to it.
use Rattle.std.specs.Prelude.{◌≡◌, ℕ, Bool, true, false, List, ◌∷◌, Option, Some, Ok}
use Rattle.std.specs.List.{list_all}
use Rattle.mls_lattice.specs.Labels.{below}
use Rattle.mls_filterview.specs.Content.{Content}
use Rattle.mls_translang.specs.declared.event.Event.{Event}
use Rattle.mls_certcheck.specs.Site.{Site, site_labels}
use Rattle.mls_machine.specs.Telling.{by_releases}
use Rattle.mls_machine.specs.Observation.{AreStored, EventsFit, AgreeAt, seen, ReleaseTheSame}
use Rattle.mls_host.specs.Hosting.{Hosted, IsClean}
use Rattle.mls_host.specs.declared.ending.Ending.{Ending}
use Rattle.mls_host.specs.declared.job.Inputs.{Inputs}
use Rattle.mls_runs.specs.declared.shell_session.ShellSession.{ShellSession}
use Rattle.mls_runs.specs.Explaining.{Explaining}
use Rattle.mls_runs.specs.Shell.{Turn, opening, events_in, last_told, AreAllTold, IsSilent}
use Rattle.mls_runs.specs.ShellRun.{shell_session_of, IsShellRun}
use Rattle.mls_runs.specs.DeskRun.{IsDeskRun}
use Rattle.mls_runs.specs.Running.{first_world}
use Rattle.mls_runs.specs.ScriptRun.{site_of_setting, IsScriptRun}

-- a second run, from its content over its events, looks alike to c: what both begin with, what c sees of the events,
-- and what they release to c, or those calls that can tell it something
pub record LooksAlike (site : Site) (c : ℕ) (first : Content) (es : List Event) (other : Content)
    (fs : List Event) : Type 0 where
  pub stored : AreStored site (first_world site other).db
  pub fits : EventsFit site fs
  pub agree : AgreeAt (site_labels site) c (first_world site first) (first_world site other)
  pub seen_same : seen site c es ≡ seen site c fs
  pub released_same : ReleaseTheSame by_releases c site (first_world site first) es site (first_world site other) fs

-- Two scripts are run to their ends for a reader c, in one form, under one policy and schemes, over the same
-- transactions. Where the second looks alike to c they write the same bytes.
abbrev pub WriteTheSame : Hosted → (List ℕ → Type 0) → Hosted → (List ℕ → Type 0) → Type 0
WriteTheSame h W k V =
    (i j : Inputs) (c : ℕ) (is_table : Bool) (store other : Option (List ℕ)) → i.setting.reader ≡ Some c
    → j.setting ≡ i.setting
    → (x : IsScriptRun h i store is_table W (Ok tt)) (y : IsScriptRun k j other is_table V (Ok tt))
    → y.stored ≡ x.stored → (was : IsClean h store) (is : IsClean k other)
    → LooksAlike (site_of_setting i.setting x.stored) c (x.run was).first i.events (y.run is).first j.events
    → (text : List ℕ) × W text × V text

-- ---- shells and desks

-- What was written and told of one shell, and what of another over a second content, of these lines: standard output is
-- the same; standard error is the same where nobody reads it at a terminal, and where somebody does, what was told
-- there
-- may be told here; and so is the status.
pub record ShowTheSame (x : Explaining) (site : Site) (session : ShellSession) (turns : List Turn) (second : Content)
    (W T V U : List ℕ → Type 0) (end other : Ending) : Type 0 where
  pub written : (text : List ℕ) × W text × V text
  pub told : session.is_watched ≡ false → (text : List ℕ) × T text × U text
  pub may : AreAllTold x site session (first_world site second) turns
      (last_told site session (first_world site second) turns (Ok other)) T
  pub status : end ≡ other

-- Two shells of one user, at one label, read the same lines to their ends. Where what the second begins with looks
-- alike to
-- the label they show the user the same.
abbrev pub TellTheSame : Explaining → (h : Hosted) → (W T : List ℕ → Type 0) → (k : Hosted) → (V U : List ℕ → Type 0)
    → Type 0
TellTheSame x h W T k V U =
    (i j : Inputs) (store other : Option (List ℕ)) (label user : List ℕ) (e f : Ending) → j.setting ≡ i.setting
    → k.before.is_terminal ≡ h.before.is_terminal → k.before.is_watched ≡ h.before.is_watched
    → IsSilent h.echo → IsSilent k.echo
    → (a : IsShellRun x h i store label user W T (Ok e)) (b : IsShellRun x k j other label user V U (Ok f))
    → b.stored ≡ a.stored → b.level ≡ a.level → (was : IsClean h store) (is : IsClean k other)
    → (b.shell is).leads.talk.turns ≡ (a.shell was).leads.talk.turns
    → let session = shell_session_of label user a.level h.before.is_terminal h.before.is_watched in
    let es = opening session ∷ events_in (a.shell was).leads.talk.turns in
    LooksAlike (site_of_setting i.setting a.stored) a.level (a.shell was).first es (b.shell is).first es
    → ShowTheSame x (site_of_setting i.setting a.stored) session (a.shell was).leads.talk.turns
    (b.shell is).first W T V U e f

-- Two desks read the same lines to their ends, of sessions whose levels c dominates. Where what the second begins with
-- looks alike to c they write the same bytes, and end with the same status.
abbrev pub ServeTheSame : Hosted → (List ℕ → Type 0) → Hosted → (List ℕ → Type 0) → Type 0
ServeTheSame h W k V =
    (i j : Inputs) (store other : Option (List ℕ)) (c : ℕ) (e f : Ending) → j.setting ≡ i.setting
    → (a : IsDeskRun h i store W (Ok e)) (b : IsDeskRun k j other V (Ok f)) → b.stored ≡ a.stored
    → (was : IsClean h store) (is : IsClean k other)
    → (b.desk is).leads.service.turns ≡ (a.desk was).leads.service.turns
    → let site = site_of_setting i.setting a.stored in
    let es = events_in (a.desk was).leads.service.turns in
    list_all (λ e. below (site_labels site) e.level c) es ≡ true
    → LooksAlike site c (a.desk was).first es (b.desk is).first es
    → ((text : List ℕ) × W text × V text) × (e ≡ f)
