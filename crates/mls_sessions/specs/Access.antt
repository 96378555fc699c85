-- Where events may read and change the base of an engine (after Bell and LaPadula 1976).
use Rattle.std.specs.Prelude.{◌≡◌, ℕ, Bool, true, false, ◌&&◌, List, Option, Some, None, ◌⊎◌}
use Rattle.std.specs.List.{list_any}
use Rattle.mls_lattice.specs.Labels.{Labels, below}
use Rattle.mls_filterview.specs.Content.{Seen}
use Rattle.mls_filterview.specs.View.{IsAmong}
use Rattle.mls_filterview.specs.Calls.{Avoids}
use Rattle.mls_certcheck.specs.declared.stored.Stored.{Stored}
use Rattle.mls_certcheck.specs.declared.stored.Stored.TheVariants.{Certified, Plain}
use Rattle.mls_certcheck.specs.Site.{Site, site_labels}
use Rattle.mls_translang.specs.declared.event.Event.{Event}
use Rattle.mls_translang.specs.declared.event.Command.{Command}
use Rattle.mls_translang.specs.declared.event.Command.TheVariants as commands
use Rattle.mls_translang.specs.declared.event.One.{One}
use Rattle.mls_translang.specs.declared.event.One.TheVariants as ones
use Rattle.mls_machine.specs.Denying.{stored_named}

-- ---- what is called: it reads below its upper end, and changes at labels that dominate its lower end, which is the
-- level of the session

abbrev pub run_may_read : Labels → Option Stored → ℕ → Bool
run_may_read ls None m = false
run_may_read ls (Some (Plain tx)) m = false
run_may_read ls (Some (Certified k)) m = below ls m k.tx.hi

abbrev pub run_may_change : Labels → ℕ → Option Stored → ℕ → Bool
run_may_change ls level None m = false
run_may_change ls level (Some (Plain tx)) m = false
run_may_change ls level (Some (Certified k)) m = below ls k.tx.lo m && below ls level m

-- ---- commands of a batch in a session of a level

module _ (ls : Labels) (level : ℕ) where
  -- what looks reads below its label, which is below the level; a write below the level
  abbrev pub one_may_read : One → ℕ → Bool
  one_may_read (ones.View relation label query counts) m = below ls m label && below ls m level
  one_may_read (ones.Expect expected relation label query) m = below ls m label && below ls m level
  one_may_read (ones.Write relation wr) m = below ls m level

  -- a write changes at labels that dominate the level, and no other anything
  abbrev pub one_may_change : One → ℕ → Bool
  one_may_change (ones.View relation label query counts) m = false
  one_may_change (ones.Expect expected relation label query) m = false
  one_may_change (ones.Write relation wr) m = below ls level m

  -- one of them may
  abbrev pub batch_may_read : List One → ℕ → Bool
  batch_may_read batch m = list_any (λ one. one_may_read one m) batch

  abbrev pub batch_may_change : List One → ℕ → Bool
  batch_may_change batch m = list_any (λ one. one_may_change one m) batch

module _ {B : Type 0} (seen : B → Seen) (ls : Labels) (level : ℕ) where
  -- a command reads and changes nothing but where it may
  abbrev pub IsOnePermitted : One → B → B → Type 0
  IsOnePermitted one = Avoids seen (λ m. one_may_read ls level one m ≡ false)
      (λ m. one_may_change ls level one m ≡ false)

  -- nor do all of them
  abbrev pub IsBatchPermitted : List One → B → B → Type 0
  IsBatchPermitted batch = Avoids seen (λ m. batch_may_read ls level batch m ≡ false)
      (λ m. batch_may_change ls level batch m ≡ false)

-- ---- commands in a session of a level

module _ (site : Site) (level : ℕ) where
  -- A view reads below its label, which is below the level; a dump and a write below the level; a call where what it
  -- runs may, and a batch where one of its commands may. To open or close a session, and to list the audit, reads
  -- nothing.
  abbrev pub may_read : Command → ℕ → Bool
  may_read (commands.Open name) m = false
  may_read commands.Close m = false
  may_read commands.Audit m = false
  may_read (commands.View relation label query counts) m =
      below (site_labels site) m label && below (site_labels site) m level
  may_read (commands.Dump relation) m = below (site_labels site) m level
  may_read (commands.Write relation wr) m = below (site_labels site) m level
  may_read (commands.Call name args) m = run_may_read (site_labels site) (stored_named site.stored name) m
  may_read (commands.All batch) m = batch_may_read (site_labels site) level batch m

  -- a write changes at labels that dominate the level; a call where what it runs may, and a batch where one of its
  -- commands may; and no other anything
  abbrev pub may_change : Command → ℕ → Bool
  may_change (commands.Open name) m = false
  may_change commands.Close m = false
  may_change commands.Audit m = false
  may_change (commands.View relation label query counts) m = false
  may_change (commands.Dump relation) m = false
  may_change (commands.Write relation wr) m = below (site_labels site) level m
  may_change (commands.Call name args) m =
      run_may_change (site_labels site) level (stored_named site.stored name) m
  may_change (commands.All batch) m = batch_may_change (site_labels site) level batch m

-- ---- events

module _ {B : Type 0} (seen : B → Seen) (site : Site) where
  -- an event reads and changes nothing but where it may
  abbrev pub IsPermitted : Event → B → B → Type 0
  IsPermitted event = Avoids seen (λ m. may_read site event.level event.command m ≡ false)
      (λ m. may_change site event.level event.command m ≡ false)

  -- what events read and change, one of them may
  pub record ArePermitted (events : List Event) (old new : B) : Type 0 where
    pub reads : (m : ℕ) → (seen new).asked m
        → (seen old).asked m
        ⊎ ((e : Event) × IsAmong e events × (may_read site e.level e.command m ≡ true))
    pub changes : (m : ℕ) → (seen new).changed m
        → (seen old).changed m
        ⊎ ((e : Event) × IsAmong e events × (may_change site e.level e.command m ≡ true))
