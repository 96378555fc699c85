-- Many sessions, each answered for its own level.
use Rattle.std.specs.Prelude.{◌≡◌, ℕ, if◌then◌else◌, List, [], ◌∷◌, ◌++◌}
use Rattle.mls_lattice.specs.Labels.{below}
use Rattle.mls_translang.specs.declared.event.Event.{Event}
use Rattle.mls_machine.specs.declared.form.Form.TheVariants.{Lines}
use Rattle.mls_certcheck.specs.Site.{Site, site_labels}
use Rattle.mls_machine.specs.Machine.{World, step}
use Rattle.mls_machine.specs.Telling.{by_releases}
use Rattle.mls_machine.specs.Observation.{AreStored, EventsFit, AgreeAt, seen, ReleaseTheSame}
use Rattle.mls_machine.specs.Observation.{PassesOnlyReleasesDown}
use Rattle.mls_machine.specs.Showing.{reply_shows, reader_of}

module _ (site : Site) where
  -- what is answered to an event: the lines of its reply that the level of its session may see
  abbrev pub answer_to : World → Event → List ℕ
  answer_to w e = reply_shows site (reader_of e.level Lines) e (step site w e).reply

  -- the answers to events, one after another
  unfoldable pub answers_to : World → List Event → List ℕ
  answers_to w [] = []
  answers_to w (e ∷ es) = answer_to w e ++ answers_to (step site w e).world es

  -- what sessions at levels that c dominates are answered, event by event
  unfoldable pub served_to : ℕ → World → List Event → List (List ℕ)
  served_to c w [] = []
  served_to c w (e ∷ es) =
      (if below (site_labels site) e.level c then answer_to w e ∷ [] else []) ++ served_to c (step site w e).world es

  -- what these sessions are answered passes nothing down to c but what is released: it is the same for any other first
  -- world that looks alike to c, and any events of which c sees the same
  abbrev pub ServesOnlyReleases : ℕ → World → List Event → Type 0
  ServesOnlyReleases c v es =
      (w : World) (fs : List Event) → AreStored site w.db → EventsFit site fs
      → AgreeAt (site_labels site) c v w → seen site c es ≡ seen site c fs
      → ReleaseTheSame by_releases c site v es site w fs
      → served_to c v es ≡ served_to c w fs

-- where no information flows down in a run but what is released, none does so by what sessions are answered
abbrev pub ServedRunsAreAlike : Type 0
ServedRunsAreAlike =
    (site : Site) (c : ℕ) (v : World) (es : List Event)
    → PassesOnlyReleasesDown site v es → ServesOnlyReleases site c v es
