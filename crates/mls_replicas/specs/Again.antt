-- Writes that are done again.
use Rattle.std.specs.Prelude.{◌≡◌, ℕ, ◌<◌, if◌then◌else◌, List, [], ◌∷◌, length, Option, Some, None, ◌⊎◌, ⊤}
use Rattle.std.specs.List.{AllByRecursion}
use Rattle.mls_lattice.specs.Labels.{Labels, AreDistinct}
use Rattle.mls_scheme.specs.Scheme.{Scheme}
use Rattle.mls_scheme.specs.Table.{Table}
use Rattle.mls_filterview.specs.Stored.{IsStored}
use Rattle.mls_updates.specs.Outcome.{is_done}
use Rattle.mls_updates.specs.Writes.{Write, WriteFits, write}
use Rattle.mls_translang.specs.declared.event.Event.{Event}
use Rattle.mls_translang.specs.declared.event.Command.{Command}
use Rattle.mls_translang.specs.declared.event.Command.TheVariants as commands
use Rattle.mls_translang.specs.Event.{EventFits}
use Rattle.mls_certcheck.specs.Site.{Site, site_labels}
use Rattle.mls_machine.specs.Machine.{World, step}
use Rattle.mls_machine.specs.Observation.{AreStored}

-- what a write at w leaves of a table
abbrev pub left : Labels → Scheme → ℕ → Write → Table → Table
left ls scheme w wr T = (write ls scheme w wr T).table

-- a write that is done again changes nothing, in any table
abbrev pub WritesAgainChangeNothing : Type 0
WritesAgainChangeNothing =
    (ls : Labels) (scheme : Scheme) (w : ℕ) (wr : Write) (T : Table)
    → left ls scheme w wr (left ls scheme w wr T) ≡ left ls scheme w wr T

-- writes at w, in order, each over what those before it left: what is left in the end, if all of them are done
abbrev pub all_done : Labels → Scheme → ℕ → List Write → Table → Option Table
all_done ls scheme w [] T = Some T
all_done ls scheme w (wr ∷ wrs) T =
    let new = write ls scheme w wr T in
    if is_done new.outcome then all_done ls scheme w wrs new.table else None

-- writes that are all done, and are all done again, change nothing the second time
abbrev pub AllAgainChangeNothing : Type 0
AllAgainChangeNothing =
    (ls : Labels) → AreDistinct ls → (scheme : Scheme) (n w : ℕ) → w < length ls → (wrs : List Write)
    → AllByRecursion (WriteFits ls n w) wrs → (T U V : Table) → IsStored ls n T
    → all_done ls scheme w wrs T ≡ Some U → all_done ls scheme w wrs U ≡ Some V
    → V ≡ U

abbrev pub IsWrite : Command → Type 0
IsWrite (commands.Write relation wr) = ⊤
IsWrite command = ⊥

-- an event is begun in the world w, and after a stop it is done in the world v: if its session is open for the same
-- user in both, or in neither, and the store of v has what the event changes or has it not, then v is left the
-- database that w is left
abbrev pub Recovers : Site → World → Event → Type 0
Recovers site w e =
    (v : World) → v.sessions e.level e.session ≡ w.sessions e.level e.session
    → (v.db ≡ w.db) ⊎ (v.db ≡ (step site w e).world.db)
    → (step site v e).world.db ≡ (step site w e).world.db

-- so each write
abbrev pub WritesAgainRecover : Type 0
WritesAgainRecover = (site : Site) (w : World) (e : Event) → IsWrite e.command → Recovers site w e

abbrev pub IsBatch : Command → Type 0
IsBatch (commands.All batch) = ⊤
IsBatch command = ⊥

-- and each batch, over content of the stored form
abbrev pub BatchesAgainRecover : Type 0
BatchesAgainRecover =
    (site : Site) → AreDistinct (site_labels site) → (w : World) (e : Event) → AreStored site w.db
    → EventFits site.policy site.schemes e → IsBatch e.command → Recovers site w e
