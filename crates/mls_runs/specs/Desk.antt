-- A desk: lines of many sessions, each answered for the level of its own before the next is read.
use Rattle.std.specs.Prelude.{◌≡◌, ◌≢◌, ℕ, ◌≤◌, if◌then◌else◌, Bool, true, false, not, List, [], ◌∷◌, ◌++◌, length}
use Rattle.std.specs.Prelude.{take, Option, ◌⊎◌}
use Rattle.std.specs.Prelude.{Result, Ok, Err, OnOk, IfErr, bytes_eq}
use Rattle.std.specs.List.{list_any}
use Rattle.std.specs.Io.KnownBytes.{Appends, IsAtEnd}
use Rattle.mls_lattice.specs.Policy.{Policy}
use Rattle.mls_tokens.specs.declared.token.Placed.{Placed}
use Rattle.mls_tokens.specs.Passing.{is_text}
use Rattle.mls_tokens.specs.Scanning.{tokens_at}
use Rattle.mls_scheme.specs.Scheme.{Schemes}
use Rattle.mls_filterview.specs.Content.{Content}
use Rattle.mls_audit.specs.Sound.{IsSoundContent}
use Rattle.mls_translang.specs.declared.event.Event.{Event}
use Rattle.mls_translang.specs.declared.event.Command.{Command}
use Rattle.mls_translang.specs.declared.event.Command.TheVariants.{Open}
use Rattle.mls_script.specs.declared.fault.ScriptFault.{ScriptFault}
use Rattle.mls_script.specs.declared.fault.ScriptCause.TheVariants.{Expected}
use Rattle.mls_script.specs.Reading.{script_at}
use Rattle.mls_script.specs.Script.{ReadsScript}
use Rattle.mls_certcheck.specs.Site.{Site}
use Rattle.mls_machine.specs.Machine.{World, end_of}
use Rattle.mls_machine.specs.Observation.{EventsFit, PassesOnlyReleasesDown}
use Rattle.mls_machine.specs.Laws.{KeepsIntegrity}
use Rattle.mls_machine.specs.Serving.{answers_to, ServesOnlyReleases}
use Rattle.mls_translang.specs.declared.run_fault.RunCause.TheVariants.{Memory, Write}
use Rattle.mls_translang.specs.declared.run_fault.RunFault.{RunFault}
use Rattle.mls_host.specs.declared.ending.Ending.{Ending}
use Rattle.mls_host.specs.Ending.{ending_if}
use Rattle.mls_runs.specs.Running.{first_world, IsLeftBy}
use Rattle.mls_runs.specs.declared.shell_session.Fate.{Fate}
use Rattle.mls_runs.specs.declared.shell_session.Fate.TheVariants.{Over, Said, Refused}
use Rattle.mls_runs.specs.Shell.{Turn, AreLines, FateFits, events_of, events_in, is_failed, is_lost}
use Rattle.mls_runs.specs.Marks.{mark_of}

-- ---- what becomes of a line, whatever the database

-- a session would be opened for the user of another name
abbrev pub is_of_other : List ℕ → Command → Bool
is_of_other session (Open user) = not (bytes_eq user session)
is_of_other session command = false

abbrev pub opens_other : Event → Bool
opens_other e = is_of_other e.session e.command

-- the place of the fourth token
abbrev pub fourth_of : List Placed → ℕ
fourth_of (label ∷ session ∷ verb ∷ name ∷ rest) = name.at
fourth_of tokens = 1

-- the tokens behind any time
abbrev pub untimed : List Placed → List Placed
untimed [] = []
untimed (first ∷ rest) = if is_text first.token then rest else first ∷ rest

abbrev pub name_column : List ℕ → ℕ
name_column line = fourth_of (untimed (tokens_at line).placed)

abbrev pub other_name : List ℕ → ScriptFault
other_name line = record { line = 1; column = name_column line; cause = Expected }

-- it tells events, as a script's line does; or one that opens a session under another name, which stands where the
-- fault is told; or it is refused for its fault as a script's line
pub data IsDeskFate (policy : Policy) (schemes : Schemes) (line : List ℕ) (fate : Fate) : Type 0 where
  over : line ≡ [] → fate ≡ Over → IsDeskFate policy schemes line fate
  said : (events : List Event) → line ≢ [] → ReadsScript policy schemes line events
      → list_any opens_other events ≡ false → fate ≡ Said events → IsDeskFate policy schemes line fate
  other : (events : List Event) → line ≢ [] → ReadsScript policy schemes line events
      → list_any opens_other events ≡ true → fate ≡ Refused (other_name line) → IsDeskFate policy schemes line fate
  refused : (fault : ScriptFault) → line ≢ [] → script_at policy schemes line ≡ Err fault → fate ≡ Refused fault
      → IsDeskFate policy schemes line fate

-- one event at most, which fits
pub record TellsOne (policy : Policy) (schemes : Schemes) (fate : Fate) : Type 0 where
  pub fits : FateFits policy schemes fate
  pub one : length (events_of fate) ≤ 1

-- ---- lines, one after another

module _ (site : Site) where
  -- a line as it is shown, and right behind it its answers: of each the lines that the level of its session may see
  abbrev pub answer_of : World → Turn → List ℕ
  answer_of w t = t.shown ++ answers_to site w (events_of t.fate)

  -- each line, its answers and its mark
  unfoldable pub desk : World → List Turn → List ℕ
  desk w [] = []
  desk w (t ∷ ts) = (answer_of w t ++ mark_of t.fate) ++ desk (end_of site w (events_of t.fate)) ts

-- ---- how a desk ends

-- A line shows a text and is answered with another, and a first part of both and of a mark is written. A part of the
-- answer is written where the writer failed, alone; or all of it, where there was no memory for the mark. Where any of
-- it
-- is written its event stands.
pub record IsCutShort (shown answer part : List ℕ) (stands : Bool) (fault : RunFault) : Type 0 where
  pub write : fault.cause ≡ Write → stands ≡ true
  pub other : fault.cause ≢ Write
      → (part ≡ shown) ⊎ ((fault.cause ≡ Memory) × (part ≡ shown ++ answer) × (stands ≡ true))

module _ (site : Site) (w : World) (turns : List Turn) (Wrote : List ℕ → Type 0) where
  -- all is written; all lines were read, or a read failed
  pub record IsWellEnded (left : Option (List ℕ)) (ending : Ending) : Type 0 where
    pub written : Wrote (desk site w turns)
    pub status : ending ≡ ending_if (list_any (λ t. is_failed t.fate) turns)
    pub none_lost : list_any (λ t. is_lost t.fate) turns ≡ false
    pub all : IsAtEnd left ⊎ (list_any (λ t. is_failed t.fate) turns ≡ true)

  -- It is given up at a line, the last that was read: what comes before it is written, and a first part of what the
  -- line shows, of its answer and of its mark. The event of the line stands, or it does not.
  pub record IsCutAt (fault : RunFault) (kept : List Event) : Type 0 where
    pub front : List Turn
    pub last : Turn
    pub stands : Bool
    pub part : List ℕ
    pub rest : List ℕ
    pub all : turns ≡ front ++ last ∷ []
    pub written : Wrote (desk site w front ++ part)
    pub whole : part ++ rest ≡ answer_of site (end_of site w (events_in front)) last ++ mark_of last.fate
    pub cut : IsCutShort last.shown (answers_to site (end_of site w (events_in front))
        (events_of last.fate)) part stands
        fault
    pub kept_are : kept ≡ events_in front ++ (if stands then events_of last.fate else [])

  -- so it is, or it is given up between two lines, for memory, and all of them stand
  pub data IsGivenUp (fault : RunFault) (kept : List Event) : Type 0 where
    at_line : IsCutAt fault kept → IsGivenUp fault kept
    between : fault.cause ≡ Memory → Wrote (desk site w turns) → kept ≡ events_in turns → IsGivenUp fault kept

  -- how its lines are written, and the events whose changes stand, by how it ends
  abbrev pub IsEndOf : Option (List ℕ) → List Event → Result Ending RunFault → Type 0
  IsEndOf left kept (Ok ending) = IsWellEnded left ending × (kept ≡ events_in turns)
  IsEndOf left kept (Err fault) = IsGivenUp fault kept

-- ---- the whole

module _ (echo : List ℕ → List ℕ) (site : Site) (before after : Option (List ℕ)) (Broken : Type 0)
    (Wrote : List ℕ → Type 0) (end : Result Ending RunFault) where
  -- What is typed is answered from a world on, of lines of which a read has failed where one could not be read.
  pub record IsServed (w : World) : Type 0 where
    pub turns : List Turn
    -- the events whose changes stand
    pub kept : List Event
    pub lines : AreLines echo (IsDeskFate site.policy site.schemes) before after turns
    pub broken : list_any (λ t. is_failed t.fate) turns ≡ true → Broken
    pub written : IsEndOf site w turns Wrote after kept end

  -- A desk over a content, which it leaves as another: as a run of the events leaves it whose changes stand.
  pub record IsDesk (first left : Content) : Type 0 where
    pub service : IsServed (first_world site first)
    pub left_by : IsLeftBy site first service.kept left
    -- a next one may begin with what is left
    pub sound : IsSoundContent site.policy site.schemes left
    -- each database on the way has the four integrity properties
    pub integrity : KeepsIntegrity site (first_world site first) (events_in service.turns)
    -- no information flows down but what is released
    pub secret : (n : ℕ) → PassesOnlyReleasesDown site (first_world site first) (take n (events_in service.turns))
    -- and so what the sessions are answered whose levels a level dominates is alike in worlds that look alike to it
    pub served : (c n : ℕ)
        → ServesOnlyReleases site c (first_world site first) (take n (events_in service.turns))

-- ---- between two lines

-- events are answered from w, and a mark is written behind that; or it is given up, they stand or they do not, and a
-- first part is written
pub record IsDeskFollowed (site : Site) (w : World) (es : List Event) (mark : List ℕ) (was is : Option (List ℕ))
    (new : World) (r : Result (Unit {0}) RunFault) : Type 0 where
  pub stands : Bool
  pub part : List ℕ
  pub rest : List ℕ
  pub bytes : Appends was is part
  pub whole : part ++ rest ≡ answers_to site w es ++ mark
  pub all : OnOk r ((rest ≡ []) × (stands ≡ true))
  pub cut : IfErr r (IsCutShort [] (answers_to site w es) part stands)
  pub world : new ≡ end_of site w (if stands then es else [])

-- lines are answered, from a world to another
pub record IsService (echo : List ℕ → List ℕ) (site : Site) (before after : Option (List ℕ)) (Broken : Type 0)
    (Wrote : List ℕ → Type 0) (end : Result Ending RunFault) (w new : World) : Type 0 where
  pub service : IsServed echo site before after Broken Wrote end w
  pub fits : EventsFit site (events_in service.turns)
  pub world : new ≡ end_of site w service.kept
