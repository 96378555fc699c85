-- What a run is under, and the open sessions.
use Rattle.std.specs.Prelude.{◌≡◌, ℕ, Bool, ◌&&◌, if◌then◌else◌, nat_eq, ◌<◌, List, [], ◌∷◌, Some, None, bytes_eq}
use Rattle.std.specs.List.{AllByRecursion}
use Rattle.mls_lattice.specs.Policy.{Name}
use Rattle.mls_scheme.specs.Table.{Database}
use Rattle.mls_audit.specs.declared.entry.Entry.{Entry}
use Rattle.mls_machine.specs.declared.reply.Reply.{Reply}
use Rattle.mls_certcheck.specs.Site.{Site}
use Rattle.mls_machine.specs.Machine.{Sessions, World, Step}
use Rattle.mls_sessions.specs.declared.site.Site.{Site as RunSite}
use Rattle.mls_sessions.specs.declared.session.Session.{Session}

-- what a run is under
abbrev pub site_of_run : RunSite → Site
site_of_run site = record { policy = site.policy.now; schemes = site.schemes.now; stored = site.stored }

-- ---- sessions

abbrev pub is_named : ℕ → Name → Session → Bool
is_named level name s = nat_eq level s.level && bytes_eq name s.name

-- the user of the first session of a level and a name
abbrev pub sessions_of : List Session → Sessions
sessions_of [] level name = None
sessions_of (s ∷ ss) level name = if is_named level name s then Some s.user else sessions_of ss level name

-- the users of sessions are numbers of count users
abbrev pub AreForUsers : ℕ → List Session → Type 0
AreForUsers count = AllByRecursion (λ s. s.user < count)

-- ---- answers

-- sessions changed, and a reply given, as by a step of the machine that looks at nothing else
pub record IsSessionStep (step : World → Step) (old new : List Session) (r : Reply) : Type 0 where
  pub reply : (db : Database) (audit : List Entry)
      → r ≡ (step (record { db = db; sessions = sessions_of old; audit = audit })).reply
  pub world : (db : Database) (audit : List Entry)
      → record { db = db; sessions = sessions_of new; audit = audit }
      ≡ (step (record { db = db; sessions = sessions_of old; audit = audit })).world
