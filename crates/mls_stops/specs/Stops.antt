-- Runs of the program that end or stop, for one reader, and shells and desks that do: what is written of two that look
-- alike agrees as far as both go.
use Rattle.std.specs.Prelude.{◌≡◌, ℕ, Bool, true, not, List, ◌∷◌, Option, Some, Result, filter}
use Rattle.std.specs.List.{list_all}
use Rattle.mls_lattice.specs.Labels.{below}
use Rattle.mls_filterview.specs.Content.{Content}
use Rattle.mls_translang.specs.declared.event.Event.{Event}
use Rattle.mls_translang.specs.declared.run_fault.RunFault.{RunFault}
use Rattle.mls_certcheck.specs.Site.{Site, site_labels}
use Rattle.mls_host.specs.Hosting.{Hosted, IsClean}
use Rattle.mls_host.specs.declared.ending.Ending.{Ending}
use Rattle.mls_host.specs.declared.job.Inputs.{Inputs}
use Rattle.mls_runs.specs.Explaining.{Explaining}
use Rattle.mls_runs.specs.Running.{first_world, standing}
use Rattle.mls_runs.specs.ScriptRun.{site_of_setting, IsScriptRun}
use Rattle.mls_runs.specs.Shell.{Turn, opening, events_in, is_lost, IsSilent}
use Rattle.mls_runs.specs.ShellRun.{shell_session_of, IsShellRun}
use Rattle.mls_runs.specs.DeskRun.{IsDeskRun}
use Rattle.mls_stops.specs.SoFar.{AgreeSoFar, LooksAlikeSoFar}

-- what was written of one and of the other agrees as far as both go
abbrev pub AreWrittenAlike : (List ℕ → Type 0) → (List ℕ → Type 0) → Type 0
AreWrittenAlike W V = (text : List ℕ) × (other : List ℕ) × W text × V other × AgreeSoFar text other

-- from their contents two runs, of the events whose changes stand, look alike to c as far as both go
abbrev pub StandAlike : Site → ℕ → Content → List Event → Content → List Event → Type 0
StandAlike site c first es other fs = LooksAlikeSoFar site c (first_world site first) es (first_world site other) fs

-- Two scripts are run for a reader c, in one form, under one policy and schemes, over the same transactions: each
-- ends, or stops for any cause.
abbrev pub WriteTheSameSoFar : Hosted → (List ℕ → Type 0) → Hosted → (List ℕ → Type 0) → Type 0
WriteTheSameSoFar h W k V =
    (i j : Inputs) (c : ℕ) (is_table : Bool) (store other : Option (List ℕ)) (end over : Result (Unit {0}) RunFault)
    → i.setting.reader ≡ Some c → j.setting ≡ i.setting
    → (x : IsScriptRun h i store is_table W end) (y : IsScriptRun k j other is_table V over)
    → y.stored ≡ x.stored → (was : IsClean h store) (is : IsClean k other)
    → StandAlike (site_of_setting i.setting x.stored) c (x.run was).first (standing i.events end) (y.run is).first
    (standing j.events over)
    → AreWrittenAlike W V

-- Two shells of one user, at one label.
abbrev pub TellTheSameSoFar : Explaining → Hosted → (List ℕ → Type 0) → (List ℕ → Type 0) → Hosted → (List ℕ → Type 0)
    → (List ℕ → Type 0) → Type 0
TellTheSameSoFar x h W T k V U =
    (i j : Inputs) (store other : Option (List ℕ)) (label user : List ℕ) (end over : Result Ending RunFault)
    → j.setting ≡ i.setting → k.before.is_terminal ≡ h.before.is_terminal → k.before.is_watched ≡ h.before.is_watched
    → IsSilent h.echo → IsSilent k.echo
    → (a : IsShellRun x h i store label user W T end) (b : IsShellRun x k j other label user V U over)
    → b.stored ≡ a.stored → b.level ≡ a.level → (was : IsClean h store) (is : IsClean k other)
    → let session = shell_session_of label user a.level h.before.is_terminal h.before.is_watched in
    let talk = (a.shell was).leads.talk in
    let later = (b.shell is).leads.talk in
    StandAlike (site_of_setting i.setting a.stored) a.level
    (a.shell was).first (standing (opening session ∷ events_in talk.turns) talk.run_end)
    (b.shell is).first (standing (opening session ∷ events_in later.turns) later.run_end)
    → AreWrittenAlike W V

-- the lines that are not lost as they are read
abbrev pub heard_turns : List Turn → List Turn
heard_turns = filter (λ t. not (is_lost t.fate))

-- Two desks of sessions whose levels c dominates, whose lines agree as far as both go.
abbrev pub ServeTheSameSoFar : Hosted → (List ℕ → Type 0) → Hosted → (List ℕ → Type 0) → Type 0
ServeTheSameSoFar h W k V =
    (i j : Inputs) (store other : Option (List ℕ)) (c : ℕ) (end over : Result Ending RunFault) → j.setting ≡ i.setting
    → IsSilent h.echo → IsSilent k.echo
    → (a : IsDeskRun h i store W end) (b : IsDeskRun k j other V over) → b.stored ≡ a.stored
    → (was : IsClean h store) (is : IsClean k other)
    → let site = site_of_setting i.setting a.stored in
    let service = (a.desk was).leads.service in
    let later = (b.desk is).leads.service in
    AgreeSoFar (heard_turns service.turns) (heard_turns later.turns)
    → list_all (λ e. below (site_labels site) e.level c) (events_in service.turns) ≡ true
    → list_all (λ e. below (site_labels site) e.level c) (events_in later.turns) ≡ true
    → StandAlike site c (a.desk was).first service.kept (b.desk is).first later.kept
    → AreWrittenAlike W V
