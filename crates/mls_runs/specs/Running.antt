-- What a run of the program writes, what it begins with and what it leaves.
use Rattle.std.specs.Prelude.{◌≡◌, ◌≢◌, ℕ, ◌-◌, if◌then◌else◌, Bool, List, [], ◌++◌, take, IfSome, Result, Ok, Err}
use Rattle.mls_filterview.specs.Content.{Content}
use Rattle.mls_audit.specs.Sound.{IsSoundContent}
use Rattle.mls_translang.specs.declared.event.Event.{Event}
use Rattle.mls_machine.specs.declared.form.Form.{Form}
use Rattle.mls_machine.specs.declared.form.Form.TheVariants.{Lines, Table}
use Rattle.mls_machine.specs.declared.form.Audience.{Audience}
use Rattle.mls_certcheck.specs.Site.{Site}
use Rattle.mls_machine.specs.Machine.{World, Sessions, no_sessions, end_of}
use Rattle.mls_machine.specs.Observation.{run_shows, PassesOnlyReleasesDown}
use Rattle.mls_machine.specs.Showing.{ShowsOnlyReleases}
use Rattle.mls_machine.specs.Laws.{KeepsIntegrity}
use Rattle.mls_translang.specs.declared.run_fault.RunCause.TheVariants.{Write}
use Rattle.mls_translang.specs.declared.run_fault.RunFault.{RunFault}
use Rattle.mls_sessions.specs.Run.{IsFaultOf}
use Rattle.mls_sessions.specs.World.{world_at}

-- a table, where it is asked for
abbrev pub form_of : Bool → Form
form_of is_table = if is_table then Table else Lines

-- the tuples and the entries of the content, and no session
abbrev pub first_world : Site → Content → World
first_world site c = world_at site no_sessions c

-- what an audience is shown of the replies to these events
abbrev pub output : Site → Audience → Content → List Event → List ℕ
output site audience first es = run_shows site audience (first_world site first) es

-- the lines before the event that stopped the run, which is one of them, and of its own a first part, which is empty
-- unless the writer failed
pub record IsStopped (site : Site) (audience : Audience) (first : Content) (es : List Event) (Wrote : List ℕ → Type 0)
    (fault : RunFault) : Type 0 where
  pub part : List ℕ
  pub rest : List ℕ
  pub written : Wrote (output site audience first (take (fault.event - 1) es) ++ part)
  pub whole :
      (output site audience first (take (fault.event - 1) es) ++ part) ++ rest
      ≡ output site audience first (take fault.event es)
  pub none : fault.cause ≢ Write → part ≡ []
  pub is : IsFaultOf es fault

-- what is written of a run that ended, or stopped
abbrev pub IsWritten : Site → Audience → Content → List Event → (List ℕ → Type 0) → Result (Unit {0}) RunFault → Type 0
IsWritten site audience first es Wrote (Ok _) = Wrote (output site audience first es)
IsWritten site audience first es Wrote (Err fault) = IsStopped site audience first es Wrote fault

-- the events whose changes stand
abbrev pub standing : List Event → Result (Unit {0}) RunFault → List Event
standing es (Ok _) = es
standing es (Err fault) = take (if fault.done then fault.event else fault.event - 1) es

-- the content is what the events leave: the relations and the entries of the last world
abbrev pub IsLeftBy : Site → Content → List Event → Content → Type 0
IsLeftBy site first es left =
    (sessions : Sessions) × (world_at site sessions left ≡ end_of site (first_world site first) es)

-- a run of events from one content to another
pub record IsRun (site : Site) (audience : Audience) (es : List Event) (Wrote : List ℕ → Type 0)
    (end : Result (Unit {0}) RunFault) (first left : Content) : Type 0 where
  pub written : IsWritten site audience first es Wrote end
  pub left_by : IsLeftBy site first (standing es end) left
  -- a next run may begin with what is left
  pub sound : IsSoundContent site.policy site.schemes left
  -- each database on the way has the four integrity properties
  pub integrity : KeepsIntegrity site (first_world site first) es
  -- no information flows down but what is released: over all events, and over the first n of them
  pub secret : (n : ℕ) → PassesOnlyReleasesDown site (first_world site first) (take n es)
  -- and so the bytes that a reader is shown are the same, in either form
  pub shown : IfSome audience.reader (λ c. (n : ℕ) → ShowsOnlyReleases site c (first_world site first) (take n es))
