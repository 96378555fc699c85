-- The laws of the machine: refusals change nothing, runs keep integrity, and no information flows down but by releases.
use Rattle.std.specs.Prelude.{◌≡◌, ◌↔◌, ℕ, true, false, List, [], ◌∷◌, ◌++◌, take, Option, Some, ⊤}
use Rattle.mls_tokens.specs.Screen.{IsHarmless}
use Rattle.mls_lattice.specs.Labels.{AreDistinct}
use Rattle.mls_lattice.specs.Policy.{Name}
use Rattle.mls_scheme.specs.declared.value.Value.{Value}
use Rattle.mls_scheme.specs.Table.{Database}
use Rattle.mls_filterview.specs.Integrity.{HasIntegrity}
use Rattle.mls_updates.specs.Outcome.{is_done}
use Rattle.mls_audit.specs.declared.entry.Entry.{Entry}
use Rattle.mls_certcheck.specs.Throughout.{Throughout}
use Rattle.mls_certcheck.specs.Rules.{Claim}
use Rattle.mls_certcheck.specs.CanTell.{CanTell}
use Rattle.mls_translang.specs.declared.event.Event.{Event}
use Rattle.mls_translang.specs.declared.event.Command.{Command}
use Rattle.mls_translang.specs.declared.event.Command.TheVariants.{Call}
use Rattle.mls_machine.specs.declared.form.Form.TheVariants.{Table}
use Rattle.mls_machine.specs.declared.reply.Reply.{Reply}
use Rattle.mls_machine.specs.declared.reply.Reply.TheVariants.{Opened, Closed, Rows, Dumped, Wrote, Ran, Entries}
use Rattle.mls_machine.specs.declared.reply.Reply.TheVariants.{Did, Undone, Denied}
use Rattle.mls_certcheck.specs.declared.stored.Stored.{Stored}
use Rattle.mls_certcheck.specs.Stored.{tx_of}
use Rattle.mls_certcheck.specs.Site.{Site, site_labels, AreRead, AreCertified}
use Rattle.mls_machine.specs.Denying.{stored_named, fitted}
use Rattle.mls_machine.specs.Machine.{World, denial_entry, call_entries, step, end_of}
use Rattle.mls_machine.specs.Observation.{AreStored, EventsFit, AreCallsSecure, AreSecure, PassesNothingDown}
use Rattle.mls_machine.specs.Observation.{PassesDownBy, PassesOnlyReleasesDown, seen, AreUntold}
use Rattle.mls_machine.specs.Observation.{ReleaseTheSame, run_shows}
use Rattle.mls_machine.specs.Telling.{Test, by_ceiling, by_releases, can_tell}

-- a denial, the rows of a view, the tuples of a dump, the entries of an audit, a write that is refused, or a batch of
-- which a command is
abbrev pub ChangesNothing : Reply → Type 0
ChangesNothing (Opened user) = ⊥
ChangesNothing Closed = ⊥
ChangesNothing (Wrote o) = is_done o ≡ false
ChangesNothing (Ran run) = ⊥
ChangesNothing (Rows found) = ⊤
ChangesNothing (Dumped ts) = ⊤
ChangesNothing (Entries es) = ⊤
ChangesNothing (Did given) = ⊥
ChangesNothing (Undone number o) = ⊤
ChangesNothing (Denied d) = ⊤

-- after such a reply the database and the sessions are as they were
abbrev pub RefusalsChangeNothing : Type 0
RefusalsChangeNothing =
    (site : Site) (w : World) (e : Event) → ChangesNothing (step site w e).reply
    → ((step site w e).world.db ≡ w.db) × ((step site w e).world.sessions ≡ w.sessions)

-- what an event adds to the audit list, by the user of its session where that is open before: the entry of a denial, or
-- those of a call
abbrev pub entries_added : Site → Event → Command → Option ℕ → Reply → List Entry
entries_added site e command (Some user) (Denied d) = denial_entry site e user d ∷ []
entries_added site e (Call name args) (Some user) (Ran run) = call_entries site e user name run.released
entries_added site e command session reply = []

-- the audit list grows by that, and by nothing else
abbrev pub DenialsAndCallsAreEntered : Type 0
DenialsAndCallsAreEntered =
    (site : Site) (w : World) (e : Event)
    → (step site w e).world.audit
    ≡ w.audit ++ entries_added site e e.command (w.sessions e.level e.session) (step site w e).reply

-- each relation of a database has the four integrity properties
abbrev pub AreWhole : Site → Database → Type 0
AreWhole site db = (relation : ℕ) → HasIntegrity (site_labels site) (db relation)

-- so each database on the way of a run: after each event, and after each statement of a call, whatever is called next
pub record KeepsIntegrity (site : Site) (w : World) (es : List Event) : Type 0 where
  pub after : (n : ℕ) → AreWhole site (end_of site w (take n es)).db
  pub within : (n : ℕ) (name : Name) (args : List (Option Value)) (s : Stored) → stored_named site.stored name ≡ Some s
      → Throughout (site_labels site) site.schemes (tx_of s) (fitted (tx_of s).params args)
      (end_of site w (take n es)).db (AreWhole site)

abbrev pub RunsKeepIntegrity : Type 0
RunsKeepIntegrity =
    (site : Site) → AreDistinct (site_labels site) → AreRead site
    → (w : World) (es : List Event) → AreStored site w.db → EventsFit site es → KeepsIntegrity site w es

-- what a level sees of the worlds and the events determines what it is shown, where it sees no call
abbrev pub LowRunsAreAlike : Type 0
LowRunsAreAlike =
    (site : Site) → AreDistinct (site_labels site)
    → (v : World) (es : List Event) → AreStored site v.db → EventsFit site es → AreCallsSecure site es
    → PassesNothingDown site v es

-- what a level sees of the worlds and the events, and what is released to it by calls that can read what it does not
-- dominate, determine what it is shown
abbrev pub SecureRunsAreAlike : Type 0
SecureRunsAreAlike =
    (site : Site) → AreDistinct (site_labels site) → AreRead site → AreSecure site
    → (v : World) (es : List Event) → AreStored site v.db → EventsFit site es → PassesDownBy by_ceiling site v es

-- and under certificates by calls that can release to it what it may not read
abbrev pub AcceptedRunsAreAlike : Type 0
AcceptedRunsAreAlike =
    (site : Site) → AreDistinct (site_labels site) → AreRead site → AreCertified site
    → (v : World) (es : List Event) → AreStored site v.db → EventsFit site es → PassesOnlyReleasesDown site v es

-- where no call that a level sees can tell it anything, two runs that look alike to it release the same by those calls
-- that can: nothing
abbrev pub UntoldRunsReleaseTheSame : Type 0
UntoldRunsReleaseTheSame =
    (tells : Test) (site : Site) (c : ℕ) (v : World) (es : List Event) (w : World) (fs : List Event)
    → seen site c es ≡ seen site c fs → AreUntold tells site c es → ReleaseTheSame tells c site v es site w fs

-- where no such call can by what is read, none can by what is released under certificates
abbrev pub TestsAreSharp : Type 0
TestsAreSharp =
    (site : Site) → AreCertified site → (c : ℕ) (es : List Event)
    → AreUntold by_ceiling site c es → AreUntold by_releases site c es

-- under a certificate the test by releases says just what can tell
abbrev pub TestsTellWhatCanTell : Type 0
TestsTellWhatCanTell = (k : Claim) (c : ℕ) → can_tell k c ≡ true ↔ CanTell k c

-- what a run shows as a table has no control character but line feeds
abbrev pub TablesAreHarmless : Type 0
TablesAreHarmless =
    (site : Site) (reader : Option ℕ) (w : World) (es : List Event)
    → IsHarmless (run_shows site (record { reader = reader; form = Table }) w es)
