-- Stores that are opened, and that are not.
use Rattle.std.specs.Prelude.{◌≡◌, ◌≢◌, ◌⊎◌, ℕ, false, List, [], ◌∷◌, length, IsTrue, IsSorted}
use Rattle.sqlite.specs.Effect.{Database, IsDatabase}
use Rattle.sqlite.specs.State.{State, HasCleanDisk, KeepsCommit}
use Rattle.sqlite.specs.Files.{HoldsDatabase, AreFoundIn, IsEmpty, file_state}
use Rattle.sqlite.specs.Held.{Held}
use Rattle.sqlite.specs.declared.FileStore.{FileStore}
use Rattle.sqlite_disk.specs.declared.Disk.{Ghosts}
use Rattle.sqlite.specs.Recovery.{Image}
use Rattle.sqlite_trees.specs.Tree.{Trees}
use Rattle.mls_lattice.specs.Canon as lattice
use Rattle.mls_lattice.specs.Policy.{Policy}
use Rattle.mls_scheme.specs.Canon as scheme
use Rattle.mls_scheme.specs.Scheme.{Schemes}
use Rattle.mls_scheme.specs.declared.file.SchemesFile.{SchemesFile}
use Rattle.mls_filterview.specs.Content.{Content}
use Rattle.mls_audit.specs.Sound.{IsSoundContent}
use Rattle.mls_tables.specs.declared.rows.MetaRow.{MetaRow}
use Rattle.mls_tables.specs.Adopting.{AreAll, IsDescribed, HasDescription, HasReadRows}
use Rattle.mls_tables.specs.declared.adopting.AllRows.{AllRows}
use Rattle.mls_tables.specs.Rows.{Tables, tables_of}
use Rattle.mls_tables.specs.Schema.{no_schema}
use Rattle.mls_tables.specs.Store.{IsClean}
use Rattle.mls_fragments.specs.declared.open_fault.OpenFault.{OpenFault}
use Rattle.mls_fragments.specs.declared.open_fault.OpenFault.TheVariants.{Store, OtherPolicy, BadRows, Memory}
use Rattle.mls_fragments.specs.Based.{BaseState, state_of}
use Rattle.mls_fragments.specs.Creating.{IsBlankImage}
use Rattle.mls_rows.specs.Holding.{Holds}
use Rattle.mls_rows.specs.declared.place.Where.{Where}
use Rattle.mls_rows.specs.Condemning.{node_cmp, cell_cmp, entry_cmp, Condemns}
use Rattle.mls_fragments.specs.Migrating.{HasTexts, IsExtended, IsOther, IsSoundBefore, IsWidenedContent}

-- ---- why a store is refused

-- every row reads, and they hold content that is sound
abbrev pub HoldsSound : (Content → Type 0) → Database → Type 0
HoldsSound Sound db = HasReadRows db × ((c : Content) × Holds (tables_of db.trees) c × Sound c)

-- the store is described, by texts of others
abbrev pub IsOfOthers : Policy → SchemesFile → Database → Type 0
IsOfOthers policy file db = (m : MetaRow) × IsDescribed m db × IsOther policy file m

-- the tables or their description are bad; or the rows are, of a store of these texts or of older ones
pub data IsBad (policy : Policy) (file : SchemesFile) (db : Database) : Type 0 where
  not_described : ¬ HasDescription db → IsBad policy file db
  not_sound : (m : MetaRow) → IsDescribed m db → HasTexts policy file m
      → ¬ HoldsSound (IsSoundContent policy file.schemes) db → IsBad policy file db
  not_sound_before : (m : MetaRow) (labels : ℕ) (counts : List ℕ) → IsDescribed m db
      → IsExtended policy file m labels counts → ¬ HoldsSound (IsSoundBefore policy file.schemes labels counts) db
      → IsBad policy file db

-- rows that hold no sound content, of a store of these texts or of older ones
pub data AreBad (policy : Policy) (file : SchemesFile) (m : MetaRow) (rows : AllRows) : Type 0 where
  of_these : HasTexts policy file m
      → ((t : Tables) → AreAll t rows → (c : Content) → Holds t c → ¬ IsSoundContent policy file.schemes c)
      → AreBad policy file m rows
  of_older : (labels : ℕ) (counts : List ℕ) → IsExtended policy file m labels counts
      → ((t : Tables) → AreAll t rows → (c : Content) → Holds t c → ¬ IsSoundBefore policy file.schemes labels counts c)
      → AreBad policy file m rows

-- the store knows so many labels, which are the first of the policy
abbrev pub KnowsLabels : Policy → SchemesFile → MetaRow → ℕ → Type 0
KnowsLabels policy file m labels =
    (HasTexts policy file m × (labels ≡ length policy.labels))
    ⊎ ((counts : List ℕ) × IsExtended policy file m labels counts)

-- every table's rows are in order
pub record AreSorted (rows : AllRows) : Type 0 where
  pub nodes : IsSorted node_cmp rows.nodes.items
  pub cells : IsSorted cell_cmp rows.cells.items
  pub entries : IsSorted entry_cmp rows.entries.items

-- the row that is condemned is bad, for a store that knows so many labels
abbrev pub CondemnsRow : Policy → SchemesFile → MetaRow → AllRows → Where → Type 0
CondemnsRow policy file m rows at =
    (labels : ℕ) × KnowsLabels policy file m labels
    × Condemns labels rows.nodes.items rows.cells.items rows.entries.items at

abbrev pub IsStoreOrMemory : OpenFault → Type 0
IsStoreOrMemory e = (e ≡ Store) ⊎ (e ≡ Memory)

-- ---- what is left of it

-- the connection that comes back has no transaction begun, and its store has committed what it had committed, or what
-- it showed, which is the same outside a transaction
pub record IsHandedBack (old new : State) : Type 0 where
  pub clean : HasCleanDisk old
  pub mode : IsTrue new.is_open → new.in_transaction ≡ false
  pub was_open : IsTrue new.is_open → IsTrue old.is_open
  pub committed : IsTrue new.is_open → (new.committed ≡ old.committed) ⊎ (new.committed ≡ old.now)

abbrev pub IsRefused : State → State → Type 0
IsRefused old new = HasCleanDisk new → IsHandedBack old new

-- a connection of which no base was made: why, and as what it comes back
pub record IsUnadopted (policy : Policy) (file : SchemesFile) (old new : State) (e : OpenFault) : Type 0 where
  pub refused : IsRefused old new
  pub texts : HasCleanDisk new → e ≡ OtherPolicy → IsOfOthers policy file old.now
  pub bad : HasCleanDisk new → e ≡ BadRows → IsBad policy file old.now
  -- a store that has nothing is made, or stays as it was
  pub made : old.now.schema ≡ no_schema → IsStoreOrMemory e
  pub kept : old.now.schema ≡ no_schema → HasCleanDisk new → KeepsCommit old new

-- rows of which no base was made: they are not of others, and are called bad only where they hold no content that is
-- sound
pub record IsUntaken (Sound : Content → Type 0) (old new : State) (e : OpenFault) : Type 0 where
  pub refused : IsRefused old new
  pub texts : e ≢ OtherPolicy
  pub bad : HasCleanDisk new → e ≡ BadRows → ¬ HoldsSound Sound old.now

-- a store of four tables of which no base was made
pub record IsUnopened (policy : Policy) (file : SchemesFile) (old new : State) (e : OpenFault) : Type 0 where
  pub refused : IsRefused old new
  pub texts : HasCleanDisk new → e ≡ OtherPolicy → IsOfOthers policy file old.now
  pub bad : HasCleanDisk new → e ≡ BadRows → IsBad policy file old.now

-- a store that was not made
pub record IsUnmade (old new : State) (e : OpenFault) : Type 0 where
  pub fault : IsStoreOrMemory e
  pub refused : IsRefused old new
  pub kept : HasCleanDisk new → KeepsCommit old new

-- ---- what is made of it

-- the two texts that describe the stores of a policy and its schemes
pub record AreTexts (policy : Policy) (file : SchemesFile) (labels schemes : List ℕ) : Type 0 where
  pub labels_are : labels ≡ lattice.lattice_of policy
  pub schemes_are : schemes ≡ scheme.canon_of policy file.version file.schemes

-- a base whose tables hold its content, which is sound, with no change begun
pub record HoldsContent (policy : Policy) (schemes : Schemes) (b : BaseState) : Type 0 where
  pub holds : IsClean b.tables → Holds b.tables.now (state_of b).now
  pub sound : IsSoundContent policy schemes (state_of b).now
  pub mode : (state_of b).begun ≡ false

-- a base over an older store, whose content was widened and which this row describes now
pub record IsMigrated (policy : Policy) (schemes : Schemes) (labels : ℕ) (counts : List ℕ) (row : MetaRow) (old : State)
    (b : BaseState) : Type 0 where
  pub clean : IsClean b.tables → HasCleanDisk old
  pub widened : IsClean b.tables → (c : Content) × Holds (tables_of old.now.trees) c
      × IsSoundBefore policy schemes labels counts c × IsWidenedContent schemes counts c (state_of b).now
  pub meta : IsClean b.tables → b.tables.now.meta ≡ row ∷ []

-- ---- stores in files

-- A database whose trees are those that the files held, if they held one, and whose schema is sound for them. Of blank
-- files it is empty; of others its trees are what they recover to.
pub record IsFoundIn (start : Image) (db : Database) : Type 0 where
  pub holds : (trees : Trees) → HoldsDatabase start trees → db.trees ≡ trees
  pub reads : (IsBlankImage start × IsEmpty db.trees) ⊎ ((¬ IsBlankImage start) × AreFoundIn start db.trees)
  pub sound : IsDatabase db

-- what the files held was found, and no base was made of it
pub record IsFoundUnadopted {D : Type 0} {g : Ghosts D} (policy : Policy) (file : SchemesFile) (start : Image)
    (e : OpenFault) (left : Held (FileStore D g)) : Type 0 where
  pub was : Held (FileStore D g)
  pub found : HasCleanDisk (file_state was) → IsFoundIn start (file_state was).now
  pub unadopted : IsUnadopted policy file (file_state was) (file_state left) e
