-- Histories: runs one after another over one database, each at its own site. Between runs no session is left, and the
-- audit list may be turned.
use Rattle.std.specs.Prelude.{◌≡◌, ℕ, Bool, false, if◌then◌else◌, List, [], ◌∷◌, ◌++◌, map, ⊤}
use Rattle.std.specs.List.{AllByRecursion, AllZip}
use Rattle.mls_lattice.specs.Labels.{Labels, AreDistinct}
use Rattle.mls_scheme.specs.Scheme.{Schemes}
use Rattle.mls_certcheck.specs.Secure.{AreStored}
use Rattle.mls_translang.specs.declared.event.Event.{Event}
use Rattle.mls_machine.specs.declared.form.Form.{Form}
use Rattle.mls_machine.specs.declared.form.Audience.{Audience}
use Rattle.mls_machine.specs.declared.reply.Reply.{Reply}
use Rattle.mls_certcheck.specs.Site.{Site, site_labels, AreRead, AreCertified}
use Rattle.mls_machine.specs.Machine.{World, no_sessions, end_of}
use Rattle.mls_machine.specs.Output.{Line, run_lines, printed}
use Rattle.mls_machine.specs.Telling.{Test, by_ceiling, by_releases}
use Rattle.mls_machine.specs.Observation.{EventsFit, AreSecure, HaveNoCall, AgreeAt, seen, ReleaseTheSame}
use Rattle.mls_machine.specs.Observation.{out, heard, replies_shown, PassesOnlyReleasesDown}
use Rattle.mls_machine.specs.Showing.{reader_of}
use Rattle.mls_machine.specs.Turning.{turn_lines, turned}
use Rattle.mls_machine.specs.Laws.{KeepsIntegrity}

-- events at a site: users, rights and stored transactions may change from run to run; and whether the audit list is
-- turned before them
pub record RunAt : Type 0 where
  pub site : Site
  pub turns : Bool
  pub events : List Event

-- a run before which the list is not turned
abbrev pub run_at : Site → List Event → RunAt
run_at site events = record { site = site; turns = false; events = events }

-- ---- what histories do

-- the world without its sessions
abbrev pub settled : World → World
settled w = record w { sessions = no_sessions }

-- what the events of a run begin with
abbrev pub run_start : World → RunAt → World
run_start w r = if r.turns then turned w else w

-- what a run leaves for the next
abbrev pub run_end : World → RunAt → World
run_end w r = settled (end_of r.site (run_start w r) r.events)

unfoldable pub history_end : World → List RunAt → World
history_end w [] = w
history_end w (r ∷ rs) = history_end (run_end w r) rs

-- what a turning prints before a run
abbrev pub turning_lines : World → RunAt → List Line
turning_lines w r = if r.turns then turn_lines r.site.policy w.audit else []

-- the lines of each run: those of the turning before it, and of its events
unfoldable pub history_lines : Form → World → List RunAt → List (List Line)
history_lines form w [] = []
history_lines form w (r ∷ rs) =
    (turning_lines w r ++ run_lines form r.site (run_start w r) r.events) ∷ history_lines form (run_end w r) rs

-- what c sees of the replies of each run
unfoldable pub history_replies : ℕ → World → List RunAt → List (List Reply)
history_replies c w [] = []
history_replies c w (r ∷ rs) =
    replies_shown r.site c (run_start w r) r.events ∷ history_replies c (run_end w r) rs

-- the bytes of each run that an audience is shown
abbrev pub history_bytes : Labels → Audience → World → List RunAt → List (List ℕ)
history_bytes ls a w rs = map (λ lines. printed (heard ls a.reader lines)) (history_lines a.form w rs)

-- each database on the way of each run has the four integrity properties
abbrev pub KeepsIntegrityInHistory : World → List RunAt → Type 0
KeepsIntegrityInHistory w [] = ⊤
KeepsIntegrityInHistory w (r ∷ rs) =
    KeepsIntegrity r.site (run_start w r) r.events × KeepsIntegrityInHistory (run_end w r) rs

-- ---- what a level sees of them

-- two runs at one site (who is cleared for what is seen by all), both after a turning or neither, and c sees
-- the same of their events
pub record LookAlike (c : ℕ) (r s : RunAt) : Type 0 where
  pub site : r.site ≡ s.site
  pub turns : r.turns ≡ s.turns
  pub events : seen r.site c r.events ≡ seen r.site c s.events

-- run by run two histories release the same to c, or those calls do so that by a test can tell c something
abbrev pub ReleaseAlikeBy : Test → ℕ → World → World → List RunAt → List RunAt → Type 0
ReleaseAlikeBy tells c v w [] ss = ⊤
ReleaseAlikeBy tells c v w (r ∷ rs) [] = ⊤
ReleaseAlikeBy tells c v w (r ∷ rs) (s ∷ ss) =
    ReleaseTheSame tells c r.site (run_start v r) r.events s.site (run_start w s) s.events
    × ReleaseAlikeBy tells c (run_end v r) (run_end w s) rs ss

abbrev pub ReleaseAlike : ℕ → World → World → List RunAt → List RunAt → Type 0
ReleaseAlike = ReleaseAlikeBy by_releases

-- two histories show the same lines to c run by run, in each form, and the same replies, and end in worlds that look
-- alike to it
pub record HistoriesEndAlike (ls : Labels) (c : ℕ) (v w : World) (rs ss : List RunAt) : Type 0 where
  pub lines : (form : Form) → map (out ls c) (history_lines form v rs) ≡ map (out ls c) (history_lines form w ss)
  pub replies : history_replies c v rs ≡ history_replies c w ss
  pub worlds : AgreeAt ls c (history_end v rs) (history_end w ss)

abbrev pub HistoryFits : List RunAt → Type 0
HistoryFits = AllByRecursion (λ r. EventsFit r.site r.events)

abbrev pub HistoryHasNoCall : List RunAt → Type 0
HistoryHasNoCall = AllByRecursion (λ r. HaveNoCall r.events)

module _ (ls : Labels) (schemes : Schemes) where
  -- a site of these labels and schemes, which stay from run to run: a label is a number, and the tuples of a
  -- view have one shape
  pub record IsSiteUnder (site : Site) : Type 0 where
    pub labels : site_labels site ≡ ls
    pub relations : site.schemes ≡ schemes
    pub read : AreRead site

  abbrev pub IsHistoryUnder : List RunAt → Type 0
  IsHistoryUnder = AllByRecursion (λ r. IsSiteUnder r.site)

  -- no information flows down in a history but what is released: at each level c, a history from any other world of the
  -- stored form that looks alike to c, at the same sites, over any events of which c sees the same, shows c the same,
  -- run by run, if run by run it also releases the same to c, or if the calls do so that by a test can tell c something
  abbrev pub PassesDownInHistoryBy : Test → World → List RunAt → Type 0
  PassesDownInHistoryBy tells v rs =
      (c : ℕ) (w : World) (ss : List RunAt) → AreStored ls schemes w.db → HistoryFits ss
      → AgreeAt ls c v w → AllZip (LookAlike c) rs ss → ReleaseAlikeBy tells c v w rs ss
      → HistoriesEndAlike ls c v w rs ss

  abbrev pub PassesOnlyReleasesDownInHistory : World → List RunAt → Type 0
  PassesOnlyReleasesDownInHistory = PassesDownInHistoryBy by_releases

  -- and without calls none at all
  abbrev pub PassesNothingDownInHistory : World → List RunAt → Type 0
  PassesNothingDownInHistory v rs =
      (c : ℕ) (w : World) (ss : List RunAt) → AreStored ls schemes w.db → HistoryFits ss → HistoryHasNoCall ss
      → AgreeAt ls c v w → AllZip (LookAlike c) rs ss
      → HistoriesEndAlike ls c v w rs ss

  -- what a history prints for c, in either form, passes nothing down but what is released: its bytes are the same for
  -- any other such history
  abbrev pub ShowsOnlyReleasesInHistory : ℕ → World → List RunAt → Type 0
  ShowsOnlyReleasesInHistory c v rs =
      (form : Form) (w : World) (ss : List RunAt) → AreStored ls schemes w.db → HistoryFits ss
      → AgreeAt ls c v w → AllZip (LookAlike c) rs ss → ReleaseAlike c v w rs ss
      → history_bytes ls (reader_of c form) v rs ≡ history_bytes ls (reader_of c form) w ss

-- each run of a history passes nothing down but what it releases, from the world that its events begin in
abbrev pub EachPassesOnlyReleasesDown : World → List RunAt → Type 0
EachPassesOnlyReleasesDown w [] = ⊤
EachPassesOnlyReleasesDown w (r ∷ rs) =
    PassesOnlyReleasesDown r.site (run_start w r) r.events × EachPassesOnlyReleasesDown (run_end w r) rs

-- ---- laws

abbrev pub HistoriesKeepIntegrity : Type 0
HistoriesKeepIntegrity =
    (ls : Labels) (schemes : Schemes) → AreDistinct ls → (v : World) (rs : List RunAt) → AreStored ls schemes v.db
    → IsHistoryUnder ls schemes rs → HistoryFits rs
    → KeepsIntegrityInHistory v rs

abbrev pub LowHistoriesAreAlike : Type 0
LowHistoriesAreAlike =
    (ls : Labels) (schemes : Schemes) → AreDistinct ls → (v : World) (rs : List RunAt) → AreStored ls schemes v.db
    → IsHistoryUnder ls schemes rs → HistoryFits rs
    → HistoryHasNoCall rs → PassesNothingDownInHistory ls schemes v rs

abbrev pub SecureHistoriesAreAlike : Type 0
SecureHistoriesAreAlike =
    (ls : Labels) (schemes : Schemes) → AreDistinct ls → (v : World) (rs : List RunAt) → AreStored ls schemes v.db
    → IsHistoryUnder ls schemes rs → HistoryFits rs
    → AllByRecursion (λ r. AreSecure r.site) rs → PassesDownInHistoryBy ls schemes by_ceiling v rs

abbrev pub AcceptedHistoriesAreAlike : Type 0
AcceptedHistoriesAreAlike =
    (ls : Labels) (schemes : Schemes) → AreDistinct ls → (v : World) (rs : List RunAt) → AreStored ls schemes v.db
    → IsHistoryUnder ls schemes rs → HistoryFits rs
    → AllByRecursion (λ r. AreCertified r.site) rs → PassesOnlyReleasesDownInHistory ls schemes v rs

-- a history passes no more than its runs
abbrev pub HistoriesPassWhatRunsPass : Type 0
HistoriesPassWhatRunsPass =
    (ls : Labels) (schemes : Schemes) → AreDistinct ls → (v : World) (rs : List RunAt) → IsHistoryUnder ls schemes rs
    → EachPassesOnlyReleasesDown v rs → PassesOnlyReleasesDownInHistory ls schemes v rs

-- a level that is shown the same lines is shown the same bytes
abbrev pub HistoriesShowOnlyReleases : Type 0
HistoriesShowOnlyReleases =
    (ls : Labels) (schemes : Schemes) (v : World) (rs : List RunAt) → PassesOnlyReleasesDownInHistory ls schemes v rs
    → (c : ℕ) → ShowsOnlyReleasesInHistory ls schemes c v rs
