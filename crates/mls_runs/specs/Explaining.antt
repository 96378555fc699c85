-- What is told beside all else where somebody reads standard error at a terminal.
use Rattle.std.specs.Prelude.{◌≡◌, ℕ, Bool, false, List, [], Option, Result, Ok, Err, ⊤, ◌⊎◌}
use Rattle.mls_certcheck.specs.Site.{Site}
use Rattle.mls_translang.specs.declared.event.Event.{Event}
use Rattle.mls_sessions.specs.declared.notice.Notice.{Notice}
use Rattle.mls_runs.specs.declared.shell_session.ShellSession.{ShellSession}
use Rattle.mls_runs.specs.declared.shell_session.Fate.{Fate}
use Rattle.mls_runs.specs.declared.shell_session.Fate.TheVariants.{TooLong, Unreadable, Lost}

-- Which texts may be told, at a site, in a session. Each is told of what the session itself has said and of why that
-- was
-- not done, and of nothing else: of no content.
pub record Explaining : Type 1 where
  -- behind the first event, with why it was not done, if it was not
  pub greets : Site → ShellSession → List Event → Option Notice → List ℕ → Type 0
  -- behind what is said of a line, by its bytes, what becomes of it, and why its event was not done
  pub says : Site → ShellSession → List ℕ → Fate → Option Notice → List ℕ → Type 0

-- any text
abbrev pub any_text : Explaining
any_text = record { greets = λ _ _ _ _ _. ⊤; says = λ _ _ _ _ _ _. ⊤ }

-- what is known of a line: nothing of one that is too long, or was not read
abbrev pub heard_of : Fate → List ℕ → List ℕ
heard_of TooLong line = []
heard_of Unreadable line = []
heard_of (Lost cause) line = []
heard_of fate line = line

-- it is the text that there is
abbrev pub IsTextOf : {S F : Type 0} → (S → List ℕ) → Result S F → List ℕ → Type 0
IsTextOf bytes (Ok text) more = more ≡ bytes text
IsTextOf bytes (Err fault) more = ⊥

-- a text is told that may be told, or there was no memory for one; and none where nobody reads it
pub record IsExplained (is_watched : Bool) (May Then : List ℕ → Type 0) : Type 0 where
  pub more : List ℕ
  pub none : is_watched ≡ false → more ≡ []
  pub may : (more ≡ []) ⊎ May more
  pub leads : Then more
