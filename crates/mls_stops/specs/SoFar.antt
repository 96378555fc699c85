-- What two runs show a level as far as both go.
use Rattle.std.specs.Prelude.{◌≡◌, ℕ, ◌+◌, ◌*◌, ◌<◌, ◌≤◌, if◌then◌else◌, List, [], ◌∷◌, ◌++◌, length, take, Option}
use Rattle.std.specs.Prelude.{Some, None, ◌⊎◌}
use Rattle.mls_translang.specs.declared.event.Event.{Event}
use Rattle.mls_translang.specs.declared.run_fault.RunCause.{RunCause}
use Rattle.mls_translang.specs.declared.run_fault.RunCause.TheVariants.{Memory, Store, Write}
use Rattle.mls_certcheck.specs.Site.{Site, site_labels}
use Rattle.mls_machine.specs.declared.form.Form.{Form}
use Rattle.mls_machine.specs.Machine.{World}
use Rattle.mls_machine.specs.Telling.{by_releases}
use Rattle.mls_machine.specs.Observation.{AreStored, EventsFit, AgreeAt, seen, ReleaseTheSame, run_shows}
use Rattle.mls_machine.specs.Observation.{PassesOnlyReleasesDown}
use Rattle.mls_machine.specs.Showing.{reader_of}
use Rattle.mls_machine.specs.Parting.{is_line_feed}

-- a list is a first part of another
abbrev pub IsFirstPart : {A : Type 0} → List A → List A → Type 0
IsFirstPart {A} xs ys = (more : List A) × (xs ++ more ≡ ys)

-- one of two lists is a first part of the other
abbrev pub AgreeSoFar : {A : Type 0} → List A → List A → Type 0
AgreeSoFar xs ys = IsFirstPart xs ys ⊎ IsFirstPart ys xs

-- A second run looks alike to c as far as both go: what c sees of the one's events is a first part of what it sees of
-- the other's, and where it has seen the same of both the same is released to it, or the calls do so that can tell it
-- something.
pub record LooksAlikeSoFar (site : Site) (c : ℕ) (v : World) (es : List Event) (w : World)
    (fs : List Event) : Type 0 where
  pub stored : AreStored site w.db
  pub fits : EventsFit site fs
  pub agree : AgreeAt (site_labels site) c v w
  pub seen_so_far : AgreeSoFar (seen site c es) (seen site c fs)
  pub released_so_far : (m n : ℕ) → seen site c (take m es) ≡ seen site c (take n fs)
      → ReleaseTheSame by_releases c site v (take m es) site w (take n fs)

-- where no information flows down in the first parts of a run but what is released, what c is shown of it, in either
-- form, and of another that looks alike to it as far as both go, agrees as far as both go
abbrev pub RunsAgreeSoFar : Type 0
RunsAgreeSoFar =
    (site : Site) (c : ℕ) (v : World) (es : List Event) → ((n : ℕ) → PassesOnlyReleasesDown site v (take n es))
    → (w : World) (fs : List Event) → LooksAlikeSoFar site c v es w fs
    → (form : Form) → AgreeSoFar (run_shows site (reader_of c form) v es) (run_shows site (reader_of c form) w fs)

-- ---- how much a stop tells

-- the lines of a text that have their ends, the first of them behind this
abbrev pub lines_behind : List ℕ → List ℕ → List (List ℕ)
lines_behind front [] = []
lines_behind front (b ∷ bs) =
    if is_line_feed b then front ∷ lines_behind [] bs else lines_behind (front ++ b ∷ []) bs

abbrev pub whole_lines : List ℕ → List (List ℕ)
whole_lines text = lines_behind [] text

-- how a run ended: what was written, and why it stopped, if it did
pub record RunEnd : Type 0 where
  pub text : List ℕ
  pub cause : Option RunCause

abbrev pub cause_number : RunCause → ℕ
cause_number Memory = 0
cause_number Store = 1
cause_number Write = 2

-- classes of ends: one of those that did not stop, and one of each cause and number of lines
abbrev pub class_by : List (List ℕ) → Option RunCause → ℕ
class_by lines None = 0
class_by lines (Some cause) = 1 + (3 * length lines + cause_number cause)

abbrev pub class_of : RunEnd → ℕ
class_of e = class_by (whole_lines e.text) e.cause

-- Ends whose texts agree as far as both go, and have n lines at most, are of 3 n + 4 classes, and of one class are the
-- cause and, where they stopped, the lines.
abbrev pub StopsTellFew : Type 0
StopsTellFew =
    (a b : RunEnd) (n : ℕ) → AgreeSoFar a.text b.text → length (whole_lines a.text) ≤ n
    → (class_of a < 3 * n + 4)
    × (class_of a ≡ class_of b
    → (a.cause ≡ b.cause) × ((a.cause ≡ None) ⊎ (whole_lines a.text ≡ whole_lines b.text)))
