-- A shell: lines are typed, and each is answered before the next is read.
use Rattle.std.specs.Prelude.{◌≡◌, ◌≢◌, ℕ, zero, suc, ◌+◌, ◌-◌, ◌<◌, max, nat_eq, nat_lt, Bool, true, false, not}
use Rattle.std.specs.Prelude.{if◌then◌else◌, List, [], ◌∷◌, ◌++◌, codes, length, take, Option, None, is_some, ◌⊎◌}
use Rattle.std.specs.Prelude.{⊤, ◌&&◌}
use Rattle.std.specs.Prelude.{◌||◌, IfErr, OnOk, Result, Ok, Err, filter, flat_map, bytes_eq}
use Rattle.std.specs.List.{AllByRecursion, list_all, list_any, starts_with}
use Rattle.std.specs.Io.KnownBytes.{Appends, Consumes, IsAtEnd}
use Rattle.mls_lattice.specs.Name.{is_name}
use Rattle.mls_lattice.specs.Policy.{Policy}
use Rattle.mls_scheme.specs.Scheme.{Schemes}
use Rattle.mls_filterview.specs.Content.{Content}
use Rattle.mls_translang.specs.declared.event.Event.{Event}
use Rattle.mls_translang.specs.declared.event.Command.TheVariants.{Open}
use Rattle.mls_script.specs.declared.fault.ScriptFault.{ScriptFault}
use Rattle.mls_script.specs.declared.fault.ScriptCause.TheVariants.{Expected}
use Rattle.mls_translang.specs.Event.{EventFits}
use Rattle.mls_script.specs.Reading.{script_at}
use Rattle.mls_script.specs.Script.{ReadsScript}
use Rattle.mls_machine.specs.declared.form.Audience.{Audience}
use Rattle.mls_certcheck.specs.Site.{Site}
use Rattle.mls_machine.specs.Machine.{World, end_of}
use Rattle.mls_machine.specs.Observation.{EventsFit, run_shows}
use Rattle.mls_machine.specs.Showing.{reader_of}
use Rattle.mls_translang.specs.declared.run_fault.RunCause.TheVariants.{Store}
use Rattle.mls_translang.specs.declared.run_fault.RunFault.{RunFault}
use Rattle.mls_sessions.specs.Engine.{MayServe}
use Rattle.mls_sessions.specs.declared.notice.Notice.{Notice}
use Rattle.mls_sessions.specs.Run.{are_done, notice_in, IsWhole, IsStopped, IsFaultOf}
use Rattle.mls_tokens.specs.Typing.{IsNext, IsLong}
use Rattle.mls_host.specs.declared.ending.Ending.{Ending}
use Rattle.mls_host.specs.declared.telling.Tally.{Tally}
use Rattle.mls_runs.specs.declared.help.TheConstants.{HELP}
use Rattle.mls_runs.specs.declared.shell_session.ShellSession.{ShellSession}
use Rattle.mls_runs.specs.declared.shell_session.Fate.{Fate}
use Rattle.mls_runs.specs.declared.shell_session.Fate.TheVariants.{Over, Blank, Help, Asked, Said, Refused, TooLong}
use Rattle.mls_runs.specs.declared.shell_session.Fate.TheVariants.{Unreadable, Lost}
use Rattle.mls_runs.specs.declared.tally.Verdict.{Verdict}
use Rattle.mls_runs.specs.declared.tally.Verdict.TheVariants as verdicts
use Rattle.mls_host.specs.Ending.{ending_if}
use Rattle.mls_runs.specs.Explaining.{Explaining, IsExplained, heard_of}
use Rattle.mls_runs.specs.Running.{first_world, form_of, IsRun}
use Rattle.mls_host.specs.Telling.{prompt_text, line_told, fault_told, tally_told}

-- ---- who sits there

-- the words that stand before each command in a script
abbrev pub prefix_of : ShellSession → List ℕ
prefix_of session = session.label ++ codes " " ++ session.user ++ codes " "

abbrev pub prompt_of : ShellSession → List ℕ
prompt_of session = if session.has_prompt then prompt_text session.label session.user else []

-- its level, which is shown tables where somebody types at a terminal
abbrev pub audience_at : ShellSession → Audience
audience_at session = reader_of session.level (form_of session.has_prompt)

abbrev pub opening : ShellSession → Event
opening session =
    record { level = session.level; session = session.user; time = None; command = Open session.user }

abbrev pub is_open : ShellSession → World → Bool
is_open session w = is_some (w.sessions session.level session.user)

-- an event of the session
abbrev pub is_own : ShellSession → Event → Bool
is_own session e = nat_eq e.level session.level && bytes_eq e.session session.user

-- A shell may begin: the first event opens the session of a user at a level.
pub record MayTalk (site : Site) (session : ShellSession) (events : List Event) : Type 0 where
  pub serves : MayServe site
  pub level : session.level < length site.policy.labels
  pub user : is_name session.user ≡ true
  pub first : events ≡ opening session ∷ []

-- ---- what becomes of a line, whatever the database

-- events, all of the session
abbrev pub fate_of_events : ShellSession → List Event → Fate
fate_of_events session events =
    if list_all (is_own session) events then Said events else Refused (record {
      line = 1;
      column = 1;
      cause =
          Expected;
    })

-- at a terminal a line asks what is declared, all of it or something, or for help with something
abbrev pub is_asked : ShellSession → List ℕ → Bool
is_asked session line =
    session.has_prompt
    && ((bytes_eq line (codes "describe\n") || starts_with nat_eq line (codes "describe "))
    || starts_with nat_eq line (codes "help "))

-- at a terminal `quit` and `exit` mean `close`
abbrev pub meant : ShellSession → List ℕ → List ℕ
meant session line =
    if session.has_prompt && (bytes_eq line (codes "quit\n") || bytes_eq line
    (codes "exit\n")) then codes "close\n" else line

-- it is no end, and asks for no help
abbrev pub IsCommand : ShellSession → List ℕ → Type 0
IsCommand session line = (line ≢ []) × (line ≢ codes "help\n") × (is_asked session line ≡ false)

-- behind the words of the session what a line means tells events; or it tells none so, and nothing by itself; or it is
-- refused for the first fault behind these words
pub data IsShellFate (policy : Policy) (schemes : Schemes) (session : ShellSession) (line : List ℕ) (fate : Fate)
    : Type 0 where
  over : line ≡ [] → fate ≡ Over → IsShellFate policy schemes session line fate
  help : line ≡ codes "help\n" → fate ≡ Help → IsShellFate policy schemes session line fate
  asked : is_asked session line ≡ true → fate ≡ Asked → IsShellFate policy schemes session line fate
  said : (events : List Event) → IsCommand session line
      → ReadsScript policy schemes (prefix_of session ++ meant session line) events
      → fate ≡ fate_of_events session events → IsShellFate policy schemes session line fate
  blank : IsCommand session line
      → ((events : List Event) → ReadsScript policy schemes (prefix_of session ++ meant session line) events → ⊥)
      → ReadsScript policy schemes (meant session line) [] → fate ≡ Blank → IsShellFate policy schemes session line fate
  refused : (fault : ScriptFault) → IsCommand session line
      → script_at policy schemes (prefix_of session ++ meant session line) ≡ Err fault
      → (ReadsScript policy schemes (meant session line) [] → ⊥) → fate ≡ Refused fault
      → IsShellFate policy schemes session line fate

-- its events fit; and it is lost for memory or the writer, never for the store
abbrev pub FateFits : Policy → Schemes → Fate → Type 0
FateFits policy schemes (Said events) = AllByRecursion (EventFits policy schemes) events
FateFits policy schemes (Lost cause) = cause ≢ Store
FateFits policy schemes fate = ⊤

abbrev pub events_of : Fate → List Event
events_of (Said events) = events
events_of fate = []

-- the column in what was typed
abbrev pub column_of : ShellSession → ℕ → ℕ
column_of session column = max (column - length (prefix_of session)) 1

-- what is said of it on standard error
abbrev pub told_of : ShellSession → ℕ → Fate → List ℕ
told_of session number Help = HELP.now
told_of session number (Refused fault) = fault_told number (column_of session fault.column) fault.cause
told_of session number TooLong = line_told number (codes "too long")
told_of session number Unreadable = line_told number (codes "unreadable")
told_of session number fate = []

-- no line is read behind it
abbrev pub is_last : Fate → Bool
is_last Over = true
is_last Unreadable = true
is_last (Lost cause) = true
is_last fate = false

abbrev pub is_failed : Fate → Bool
is_failed Unreadable = true
is_failed fate = false

-- a shell is given up there
abbrev pub is_lost : Fate → Bool
is_lost (Lost cause) = true
is_lost fate = false

-- it was not read or understood whole: reading failed, or it is lost, for memory or the writer, never for the store
abbrev pub IsCut : Fate → Type 0
IsCut Unreadable = ⊤
IsCut (Lost cause) = cause ≢ Store
IsCut fate = ⊥

-- ---- what is counted of lines

-- of a line whose events are all done, or not
abbrev pub verdict_of : Bool → Fate → Verdict
verdict_of done Help = verdicts.Done
verdict_of done Asked = verdicts.Done
verdict_of done (Said events) = if done then verdicts.Done else verdicts.Refused
verdict_of done (Refused fault) = verdicts.Misunderstood
verdict_of done TooLong = verdicts.Misunderstood
verdict_of done Unreadable = verdicts.Misunderstood
verdict_of done fate = verdicts.Silent

abbrev pub says : Verdict → Bool
says verdicts.Silent = false
says v = true

abbrev pub is_refused : Verdict → Bool
is_refused verdicts.Refused = true
is_refused v = false

abbrev pub is_misunderstood : Verdict → Bool
is_misunderstood verdicts.Misunderstood = true
is_misunderstood v = false

-- how many lines say something, and how many of these are refused and not understood
abbrev pub tally : List Verdict → Tally
tally vs = record {
  lines = length (filter says vs);
  refused = length (filter is_refused vs);
  misunderstood = length (filter is_misunderstood vs);
}

-- not all of them are done
abbrev pub is_short : Tally → Bool
is_short t = nat_lt 0 t.refused || nat_lt 0 t.misunderstood

-- what is told at the end where nobody types at a terminal
abbrev pub end_told : ShellSession → Tally → List ℕ
end_told session t = if session.has_prompt then [] else tally_told t

-- ---- lines that are typed one after another

-- a line, what the host shows of it when it is read, and what becomes of it
pub record Turn : Type 0 where
  pub line : List ℕ
  pub shown : List ℕ
  pub fate : Fate

-- a line comes next, and this becomes of it; or it is too long; or it is not read or understood whole
pub data IsShellTurn (echo : List ℕ → List ℕ) (IsFateOf : List ℕ → Fate → Type 0) (before after : Option (List ℕ))
    (t : Turn) : Type 0 where
  whole : (next : IsNext before after t.line) → length next.text < 1048576 → t.shown ≡ echo t.line
      → IsFateOf t.line t.fate → IsShellTurn echo IsFateOf before after t
  long : IsLong before after t.line → t.shown ≡ [] → t.fate ≡ TooLong
      → IsShellTurn echo IsFateOf before after t
  cut : (line : List ℕ) (rest : List ℕ) → Consumes before after t.line → t.shown ++ rest ≡ echo line → IsCut t.fate
      → IsShellTurn echo IsFateOf before after t

abbrev pub events_in : List Turn → List Event
events_in = flat_map (λ t. events_of t.fate)

-- lines are read one after another, none lost, and none behind a last one
unfoldable pub AreLines : (List ℕ → List ℕ) → (List ℕ → Fate → Type 0) → Option (List ℕ) → Option (List ℕ) → List Turn
    → Type 0
AreLines echo IsFateOf before after [] = before ≡ after
AreLines echo IsFateOf before after (t ∷ ts) =
    (left : Option (List ℕ)) × IsShellTurn echo IsFateOf before left t × (ts ≢ [] → is_last t.fate ≡ false)
    × AreLines echo IsFateOf left after ts

module _ (site : Site) (session : ShellSession) where
  -- what the session's level sees of the replies to events
  abbrev pub answers : World → List Event → List ℕ
  answers w es = run_shows site (audience_at session) w es

  -- each line as it is shown, and right behind it its answers
  unfoldable pub dialogue : World → List Turn → List ℕ
  dialogue w [] = []
  dialogue w (t ∷ ts) = (t.shown ++ answers w (events_of t.fate)) ++ dialogue (end_of site w (events_of t.fate)) ts

  -- the world in which the first line is read
  abbrev pub after_opening : World → World
  after_opening w = end_of site w (opening session ∷ [])

  abbrev pub transcript : World → List Turn → List ℕ
  transcript w turns = answers w (opening session ∷ []) ++ dialogue (after_opening w) turns

  -- what is shown before a line: nothing before the opening, which is as a line 0
  abbrev pub shown_to : World → List Turn → ℕ → List ℕ
  shown_to w turns zero = []
  shown_to w turns (suc n) = transcript w (take n turns)

  -- what is counted of each line, from the world on in which the first is read
  unfoldable pub verdicts_in : World → List Turn → List Verdict
  verdicts_in w [] = []
  verdicts_in w (t ∷ ts) =
      verdict_of (are_done site w (events_of t.fate)) t.fate ∷ verdicts_in (end_of site w (events_of t.fate)) ts

  abbrev pub tally_of : World → List Turn → Tally
  tally_of w turns = tally (verdicts_in (after_opening w) turns)

  -- not all is done: the opening is denied, or a line is refused or not understood
  abbrev pub has_refused : World → List Turn → Bool
  has_refused w turns = not (is_open session (after_opening w)) || is_short (tally_of w turns)

  -- what is told behind all lines, of a shell that is not given up
  abbrev pub last_told : World → List Turn → Result Ending RunFault → List ℕ
  last_told w turns (Ok ending) = end_told session (tally_of w turns)
  last_told w turns (Err fault) = []

-- what is told where nobody reads it at a terminal, from the line of a number on: the prompt before each line, and
-- what is said of it
unfoldable pub told_from : ShellSession → ℕ → List Turn → List ℕ
told_from session number [] = []
told_from session number (t ∷ ts) = (prompt_of session ++ told_of session number t.fate) ++ told_from session
    (number + 1) ts

-- what is told beside that
module _ (x : Explaining) (site : Site) (session : ShellSession) where
  -- what may be told behind what is said of a line, whose events are answered from a world on
  abbrev pub MayTell : World → Turn → List ℕ → Type 0
  MayTell w t = x.says site session (heard_of t.fate t.line) t.fate (notice_in site w (events_of t.fate))

  -- what is told, from the line of a number on, from a world on: of each line the same, and behind it what may be told
  unfoldable pub AreTold : World → ℕ → List Turn → List ℕ → Type 0
  AreTold w number [] text = text ≡ []
  AreTold w number (t ∷ ts) text = IsExplained session.is_watched (MayTell w t) (λ more.
      (rest : List ℕ) × (text ≡ (prompt_of session ++ (told_of session number t.fate ++ more)) ++ rest)
      × AreTold (end_of site w (events_of t.fate)) (number + 1) ts rest)

  -- what is told of a shell: what may be told behind its opening, then what is told of its lines, and the last
  pub record AreAllTold (w : World) (turns : List Turn) (last : List ℕ) (Told : List ℕ → Type 0) : Type 0 where
    pub lines : List ℕ
    pub are : AreTold (after_opening site session w) 1 turns lines
    pub opening : IsExplained session.is_watched
        (x.greets site session (opening session ∷ []) (notice_in site w (opening session ∷ [])))
        (λ more. Told (more ++ lines ++ last))

-- where nobody reads it, what is told of lines is what stands above
abbrev pub PipesAreToldNoMore : Explaining → Type 0
PipesAreToldNoMore x = (site : Site) (session : ShellSession) (w : World) (number : ℕ) (turns : List Turn)
    (text : List ℕ)
    → session.is_watched ≡ false → AreTold x site session w number turns text → text ≡ told_from session number turns

-- no line is shown
abbrev pub IsSilent : (List ℕ → List ℕ) → Type 0
IsSilent echo = (line : List ℕ) → echo line ≡ []

-- ---- how a shell ends

module _ (site : Site) (session : ShellSession) (w : World) (turns : List Turn) (Wrote : List ℕ → Type 0) where
  -- all is written; and where the session is still open, all lines were read, or a read failed
  pub record IsWellEnded (left : Option (List ℕ)) (ending : Ending) : Type 0 where
    pub written : Wrote (transcript site session w turns)
    pub status : ending ≡ ending_if (has_refused site session w turns)
    pub none_lost : list_any (λ t. is_lost t.fate) turns ≡ false
    pub all : is_open session (end_of site w (opening session ∷ events_in turns)) ≡ true
        → IsAtEnd left ⊎ (list_any (λ t. is_failed t.fate) turns ≡ true)

  -- it is given up at the last line that was read, or, as at line 0, at the opening: at one of its events, or before
  -- them; what is shown before it is written, and a first part of what it shows
  pub record IsGivenUp (end : Result (Unit {0}) RunFault) (fault : RunFault) : Type 0 where
    pub line : fault.event ≡ length turns
    pub cause : IfErr end (λ f. (f.cause ≡ fault.cause) × (f.done ≡ fault.done))
    pub part : List ℕ
    pub rest : List ℕ
    pub written : Wrote (shown_to site session w turns fault.event ++ part)
    pub whole : (shown_to site session w turns fault.event ++ part) ++ rest ≡ shown_to site session w turns
        (suc fault.event)

  -- how the run of the events ends, by how the shell does
  abbrev pub IsEndOf : Option (List ℕ) → Result (Unit {0}) RunFault → Result Ending RunFault → Type 0
  IsEndOf left end (Ok ending) = (end ≡ Ok tt) × IsWellEnded left ending
  IsEndOf left end (Err fault) = IsGivenUp end fault

-- ---- the whole

module _ (echo : List ℕ → List ℕ) (site : Site) (session : ShellSession) where
  -- lines are read one after another, none lost, each while the session is open, and none behind a last one
  -- What is still to come stands between the lines, so a line, its reading, what is shown and what becomes of it are
  -- one fact (`IsTurn`), which desks share. Of a reader that tells nothing of its bytes any line comes next.
  unfoldable pub AreTurns : World → Option (List ℕ) → Option (List ℕ) → List Turn → Type 0
  AreTurns w before after [] = before ≡ after
  AreTurns w before after (t ∷ ts) =
      (left : Option (List ℕ)) × (is_open session w ≡ true)
      × IsShellTurn echo (IsShellFate site.policy site.schemes session) before left t
      × (ts ≢ [] → is_last t.fate ≡ false) × AreTurns (end_of site w (events_of t.fate)) left after ts

module _ (x : Explaining) (echo : List ℕ → List ℕ) (site : Site) (session : ShellSession)
    (before after : Option (List ℕ)) (Broken : Type 0) (Wrote Told : List ℕ → Type 0)
    (end : Result Ending RunFault) where
  -- What is typed is answered from a world on, of lines of which a read has failed where one is told as unreadable.
  pub record IsTalk (w : World) : Type 0 where
    pub turns : List Turn
    pub run_end : Result (Unit {0}) RunFault
    pub lines : AreTurns echo site session (after_opening site session w) before after turns
    pub broken : list_any (λ t. is_failed t.fate) turns ≡ true → Broken
    pub told : AreAllTold x site session w turns (last_told site session w turns end) Told
    pub ended : IsEndOf site session w turns Wrote after run_end end

  -- A shell over a content, which it leaves as another. Where the host shows nothing of the lines, it is the run of
  -- the opening and of all events that are told, for the session's level alone, and writes what that writes.
  pub record IsShell (first left : Content) : Type 0 where
    pub talk : IsTalk (first_world site first)
    pub run : IsSilent echo
        → IsRun site (audience_at session) (opening session ∷ events_in talk.turns) Wrote talk.run_end first left

-- ---- between two lines

-- events are answered from w, or not all are, for a fault that the shell tells of
pub record IsAnswered (site : Site) (audience : Audience) (w : World) (es : List Event) (was is : Option (List ℕ))
    (new : World) (end : Result (Unit {0}) RunFault) : Type 0 where
  pub whole : OnOk end (IsWhole site audience w es was is new)
  pub stopped : IfErr end (IsStopped site audience w es was is new)
  pub fault : IfErr end (IsFaultOf es)

-- at a line the shell goes on, or is given up
pub record IsShellFollowed (site : Site) (audience : Audience) (w : World) (es : List Event) (was is : Option (List ℕ))
    (new : World) (number : ℕ) (r : Result (Unit {0}) RunFault) : Type 0 where
  pub end : Result (Unit {0}) RunFault
  pub answered : IsAnswered site audience w es was is new end
  pub ok : OnOk r (end ≡ Ok tt)
  pub line : IfErr r (λ fault. fault.event ≡ number)
  pub cause : IfErr r (λ fault. IfErr end (λ f. (f.cause ≡ fault.cause) × (f.done ≡ fault.done)))

-- a line is read, and this becomes of it
pub record IsLineRead (echo : List ℕ → List ℕ) (IsFateOf : List ℕ → Fate → Type 0)
    (before after was is : Option (List ℕ)) (Broken : Type 0) (fate : Fate) : Type 0 where
  pub turn : Turn
  pub is_turn : IsShellTurn echo IsFateOf before after turn
  pub same : turn.fate ≡ fate
  pub shown : Appends was is turn.shown
  pub over : fate ≡ Over → IsAtEnd after
  pub broken : fate ≡ Unreadable → Broken

-- so it is, and these bytes of it are known
pub record IsShellLineRead (echo : List ℕ → List ℕ) (policy : Policy) (schemes : Schemes) (session : ShellSession)
    (before after was is : Option (List ℕ)) (Broken : Type 0) (fate : Fate) (heard : List ℕ) : Type 0 where
  pub read : IsLineRead echo (IsShellFate policy schemes session) before after was is Broken fate
  pub known : is_lost fate ≡ false → heard ≡ heard_of fate read.turn.line

-- why the event of a line was not done, if it told any
abbrev pub noticed_by : Fate → Option Notice → Option Notice
noticed_by (Said events) notice = notice
noticed_by fate notice = None

-- a talk from a world to another
pub record IsConversation (x : Explaining) (echo : List ℕ → List ℕ) (site : Site) (session : ShellSession)
    (before after was is : Option (List ℕ)) (Broken : Type 0) (Told : List ℕ → Type 0) (end : Result Ending RunFault)
    (w new : World) : Type 0 where
  pub talk : IsTalk x echo site session before after Broken (Appends was is) Told end w
  pub fits : EventsFit site (opening session ∷ events_in talk.turns)
  pub run : IsSilent echo
      → IsAnswered site (audience_at session) w (opening session ∷ events_in talk.turns) was is new talk.run_end
