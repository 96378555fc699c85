-- How much a level can learn in a life: in a run of events from a world.
use Rattle.std.specs.Prelude.{◌≡◌, ◌⊎◌, false, ℕ, ◌*◌, ◌<◌, ◌≤◌, if◌then◌else◌, List, [], ◌∷◌, ◌++◌, length, Option}
use Rattle.std.specs.Prelude.{Some, None}
use Rattle.std.specs.Prelude.{Contains}
use Rattle.std.specs.List.{AllZip}
use Rattle.mls_lattice.specs.Labels.{AreDistinct, below}
use Rattle.mls_translang.specs.Tx.{Tx}
use Rattle.mls_translang.specs.declared.event.Event.{Event}
use Rattle.mls_translang.specs.declared.event.Command.{Command}
use Rattle.mls_translang.specs.declared.event.Command.TheVariants.{Call}
use Rattle.mls_certcheck.specs.declared.stored.Stored.{Stored}
use Rattle.mls_certcheck.specs.Stored.{tx_of}
use Rattle.mls_certcheck.specs.Meaning.{Item}
use Rattle.mls_certcheck.specs.Site.{Site, site_labels, AreRead, AreCertified}
use Rattle.mls_labeller.specs.declared.told.Told.{Told}
use Rattle.mls_labeller.specs.Releases.{AreTold, HasAll}
use Rattle.mls_machine.specs.declared.reply.Reply.{Reply}
use Rattle.mls_machine.specs.declared.reply.Reply.TheVariants.{Ran}
use Rattle.mls_machine.specs.Denying.{stored_named}
use Rattle.mls_machine.specs.Machine.{World, step}
use Rattle.mls_machine.specs.Telling.{by_releases}
use Rattle.mls_machine.specs.Observation.{AreStored, EventsFit, AgreeAt, EndAlike, seen, released_to}

-- a run of events from a world
pub record Life : Type 0 where
  pub world : World
  pub events : List Event

module _ (site : Site) (c : ℕ) where
  -- a life begins as another does to c: its world is of the stored form, its events fit, and c sees the same of both
  -- worlds and of both lists of events
  pub record BeginsAs (life other : Life) : Type 0 where
    pub stored : AreStored site other.world.db
    pub fits : EventsFit site other.events
    pub agree : AgreeAt (site_labels site) c life.world other.world
    pub events : seen site c life.events ≡ seen site c other.events

  -- the lives that begin as this one does to c are of so many classes at most, and two of one class end alike to c: it
  -- is shown the same lines and replies, and their last worlds look alike to it
  pub record TellsAtMost (life : Life) (count : ℕ) : Type 0 where
    pub class : (other : Life) → BeginsAs life other → ℕ
    pub few : (other : Life) (begins : BeginsAs life other) → class other begins < count
    pub alike : (one two : Life) (first : BeginsAs life one) (second : BeginsAs life two)
        → class one first ≡ class two second → EndAlike site c one.world two.world one.events two.events

  -- each of them releases to c one of these lists of items
  abbrev pub HasReleases : Life → List (List Item) → Type 0
  HasReleases life lists =
      (other : Life) → BeginsAs life other → Contains lists (released_to site c other.world other.events)

  -- ---- calls, one after another

  -- what is stored by a name
  abbrev pub called : Option Stored → List Stored
  called None = []
  called (Some s) = s ∷ []

  -- the transaction that a command has run, by its reply: none, where it is no call, or is denied
  abbrev pub ran : Command → Reply → List Stored
  ran (Call name args) (Ran run) = called (stored_named site.stored name)
  ran command reply = []

  -- those that are run in a run from w by events that c sees, in order
  unfoldable pub all_ran : World → List Event → List Stored
  all_ran w [] = []
  all_ran w (e ∷ es) =
      (if below (site_labels site) e.level c then ran e.command (step site w e).reply else [])
      ++ all_ran (step site w e).world es

  -- a call of a transaction can release to c at most so many lists of items of the ranges that are told of it
  pub record ReleasesAtMost (tx : Tx) (count : ℕ) : Type 0 where
    pub told : List Told
    pub are_told : AreTold tx told
    pub lists : List (List Item)
    pub few : length lists ≤ count
    pub all : HasAll site.policy site.schemes tx c told lists

  -- a call counts so many; one that can tell c nothing counts one
  abbrev pub CountsAtMost : Stored → ℕ → Type 0
  CountsAtMost s count = ((by_releases site c s ≡ false) × (count ≡ 1)) ⊎ ReleasesAtMost (tx_of s) count

abbrev pub product : List ℕ → ℕ
product [] = 1
product (n ∷ ns) = n * product ns

-- ---- laws

-- where each life that begins so releases to c one of these lists of items, c tells apart at most as many classes of
-- them as there are lists
abbrev pub RunsTellFew : Type 0
RunsTellFew =
    (site : Site) → AreDistinct (site_labels site) → AreRead site → AreCertified site
    → (c : ℕ) (life : Life) (lists : List (List Item)) → HasReleases site c life lists
    → TellsAtMost site c life (length lists)

-- and at most the product of the numbers of lists that the calls can release to it which it sees done, one after
-- another; a call that can tell it nothing counts one
abbrev pub CallsMultiply : Type 0
CallsMultiply =
    (site : Site) → AreDistinct (site_labels site) → AreRead site → AreCertified site
    → (c : ℕ) (life : Life) → AreStored site life.world.db → EventsFit site life.events
    → (counts : List ℕ) → AllZip (CountsAtMost site c) (all_ran site c life.world life.events) counts
    → TellsAtMost site c life (product counts)
