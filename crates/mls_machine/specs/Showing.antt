-- What an audience is shown: the bytes of a reply, and that those of a run pass nothing down but what is released.
use Rattle.std.specs.Prelude.{◌≡◌, ℕ, List, Some, None}
use Rattle.mls_scheme.specs.Table.{Database}
use Rattle.mls_translang.specs.declared.event.Event.{Event}
use Rattle.mls_certcheck.specs.Site.{Site, site_labels}
use Rattle.mls_machine.specs.declared.form.Form.{Form}
use Rattle.mls_machine.specs.declared.form.Form.TheVariants.{Lines}
use Rattle.mls_machine.specs.declared.form.Audience.{Audience}
use Rattle.mls_machine.specs.declared.reply.Reply.{Reply}
use Rattle.mls_machine.specs.Machine.{World}
use Rattle.mls_machine.specs.Output.{reply_lines_in, printed}
use Rattle.mls_machine.specs.Observation.{AreStored, EventsFit, AgreeAt, ReleaseTheSame, seen, heard, run_shows}
use Rattle.mls_machine.specs.Telling.{by_releases}

-- the bytes that an audience is shown of a reply
abbrev pub reply_shows : Site → Audience → Event → Reply → List ℕ
reply_shows site a e r = printed (heard (site_labels site) a.reader (reply_lines_in a.form site e r))

-- all lines, for no one reader
abbrev pub everyone : Audience
everyone = record { reader = None; form = Lines }

-- a reader of this label
abbrev pub reader_of : ℕ → Form → Audience
reader_of c form = record { reader = Some c; form = form }

-- what a run prints for c, in either form, passes nothing down but what is released: its bytes are the same for any
-- other such run
abbrev pub ShowsOnlyReleases : Site → ℕ → World → List Event → Type 0
ShowsOnlyReleases site c v es =
    (form : Form) (w : World) (fs : List Event) → AreStored site w.db → EventsFit site fs
    → AgreeAt (site_labels site) c v w → seen site c es ≡ seen site c fs
    → ReleaseTheSame by_releases c site v es site w fs
    → run_shows site (reader_of c form) v es ≡ run_shows site (reader_of c form) w fs
