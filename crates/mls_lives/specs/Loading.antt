-- Dumps load back: the events that a dump prints make again what it was of.
use Rattle.std.specs.Prelude.{◌≡◌, ℕ, true, List, [], ◌∷◌, map, ◌↔◌}
use Rattle.std.specs.FinMap.{empty}
use Rattle.mls_lattice.specs.Labels.{Labels, AreDistinct, below}
use Rattle.mls_lattice.specs.Policy.{Name}
use Rattle.mls_scheme.specs.declared.tuple.Tuple.{Tuple}
use Rattle.mls_scheme.specs.Table.{Table, IsIn}
use Rattle.mls_filterview.specs.View.{View, low, IsAmong}
use Rattle.mls_filterview.specs.Filtering.{EachOnce}
use Rattle.mls_filterview.specs.Stored.{IsStored, IsContent}
use Rattle.mls_filterview.specs.Reach.{low_tuples}
use Rattle.mls_updates.specs.declared.outcome.Outcome.TheVariants.{Done, NoTuple}
use Rattle.mls_updates.specs.Writes.{Written, write}
use Rattle.mls_translang.specs.declared.event.Event.{Event}
use Rattle.mls_translang.specs.declared.event.Command.{Command}
use Rattle.mls_translang.specs.declared.event.Command.TheVariants.{Write}
use Rattle.mls_certcheck.specs.Site.{Site, site_labels, site_scheme}
use Rattle.mls_machine.specs.Dumping.{dump_event}

module _ (site : Site) where
  -- what a write event makes of the table of its relation, as a step does in which it is not denied
  abbrev pub made_by : ℕ → Command → Table → Written
  made_by level (Write relation wr) T = write (site_labels site) (site_scheme site relation) level wr T
  made_by level command T = record { table = T; outcome = NoTuple }

  -- events make one table of another, one after another, and each is Done
  unfoldable pub Make : List Event → Table → Table → Type 0
  Make [] T U = T ≡ U
  Make (e ∷ es) T U =
      ((made_by e.level e.command T).outcome ≡ Done) × Make es (made_by e.level e.command T).table U

-- ---- laws

-- the events that a dump at c prints, done over nothing, are each Done, and make the tuples of classes that c dominates
abbrev pub DumpsLoadBack : Type 0
DumpsLoadBack =
    (site : Site) → AreDistinct (site_labels site) → (session : Name) (relation c : ℕ) (T : Table)
    → IsContent (site_labels site) (site_scheme site relation) T
    → Make site (map (dump_event site session relation) (low_tuples (site_labels site) c T)) empty
    (low (site_labels site) c T)

-- a dump has each of these tuples once, and no others
abbrev pub DumpsHaveEach : Type 0
DumpsHaveEach =
    (ls : Labels) → AreDistinct ls → (n c : ℕ) (T : Table) → IsStored ls n T
    → EachOnce (low_tuples ls c T) × ((t : Tuple) → IsAmong t (low_tuples ls c T) ↔ IsIn (low ls c T) t)

-- of the tuples of classes that c dominates each label that c dominates sees what it sees of all
abbrev pub DumpsShowTheSame : Type 0
DumpsShowTheSame =
    (ls : Labels) (n c d : ℕ) (T : Table) → IsStored ls n T → below ls d c ≡ true
    → (t : Tuple) → View ls (IsIn (low ls c T)) d t ↔ View ls (IsIn T) d t
