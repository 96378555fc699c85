-- What files keep from one base to the next.
use Rattle.std.specs.Prelude.{◌≡◌, Bool, [], IsTrue}
use Rattle.sqlite_disk.specs.declared.Disk.{Ghosts}
use Rattle.sqlite_disk.specs.declared.Files.{Files}
use Rattle.sqlite_trees.specs.Tree.{Trees}
use Rattle.sqlite.specs.Closing.{files_left}
use Rattle.sqlite.specs.Effect.{Database, IsDatabase}
use Rattle.sqlite.specs.Files.{HoldsDatabase, IsClosed, LeavesFiles, image_of, file_state}
use Rattle.sqlite.specs.FileStore.{files, recovers, view}
use Rattle.sqlite.specs.Held.{AreDatabases, Held}
use Rattle.sqlite.specs.Recovery.{Image}
use Rattle.sqlite.specs.WalFiles.{outcomes}
use Rattle.sqlite.specs.WalReads.{AreClean}
use Rattle.sqlite.specs.declared.FileStore.{FileStore}
use Rattle.sqlite.specs.declared.file.Leftover.{Leftover}
use Rattle.mls_lattice.specs.Policy.{Policy}
use Rattle.mls_scheme.specs.declared.file.SchemesFile.{SchemesFile}
use Rattle.mls_filterview.specs.Content.{Content}
use Rattle.mls_tables.specs.declared.rows.MetaRow.{MetaRow}
use Rattle.mls_tables.specs.Store.{IsClean}
use Rattle.mls_fragments.specs.Based.{BaseState, HasRow, state_of}
use Rattle.mls_fragments.specs.Creating.{IsBlankImage, LeavesBlank}
use Rattle.mls_fragments.specs.Holdings.{Holdings, no_holdings, holdings_of, HasHoldings, IsTakenOf, Takes}
use Rattle.mls_fragments.specs.Opening.{IsFoundIn, IsFoundUnadopted, IsStoreOrMemory}
use Rattle.mls_fragments.specs.declared.open_fault.OpenFault.{OpenFault}

-- ---- what files have

-- an opening finds a database in the files, which has this
abbrev pub FindsHoldings : Image → Holdings → Type 0
FindsHoldings image h = (db : Database) × IsFoundIn image db × HasHoldings db h

-- The database file is empty and there is nothing, or the files hold a database, which has this. It is said of
-- bytes and not of a disk, so of every image that a crash may leave. That it is one thing is said where an opening
-- finds something (`KeptIsFound`); what is left of a creation that a crash cut off is nothing (`BlankIsNothing`).
pub data KeepsHoldings (image : Image) (h : Holdings) : Type 0 where
  empty : image.db ≡ [] → h ≡ no_holdings → KeepsHoldings image h
  rows : (db : Database) → ∥ HoldsDatabase image db.trees ∥₁ → IsDatabase db → HasHoldings db h → KeepsHoldings image h

-- so do the two files, and the database file with no log
pub record IsKeptAlone (image : Image) (h : Holdings) : Type 0 where
  pub both : KeepsHoldings image h
  pub alone : KeepsHoldings (record image { log = [] }) h

-- as the files read now, and after a crash
pub record AreKept {D : Type 0} (g : Ghosts D) (files : Files D) (h : Holdings) : Type 0 where
  pub seen : IsKeptAlone (image_of g files) h
  pub left : (image : Image) → outcomes g files.log files.db image → IsKeptAlone image h

-- the files, where they are clean, keep what the base's tables have
pub record IsBaseKept {D : Type 0} (g : Ghosts D) (files : Files D) (b : BaseState) : Type 0 where
  pub row : MetaRow
  pub base : HasRow b row
  pub kept : AreClean g files.log files.db → AreKept g files (holdings_of row (state_of b).now)

-- what files keep is all that an opening finds in them
abbrev pub KeptIsFound : Type 0
KeptIsFound = (image : Image) (h k : Holdings) → KeepsHoldings image h → FindsHoldings image k → h ≡ k

-- and so all that is taken of them
abbrev pub KeptIsTaken : Type 0
KeptIsTaken =
    (policy : Policy) (file : SchemesFile) (image : Image) (h : Holdings) (now : Content)
    → KeepsHoldings image h → IsTakenOf (FindsHoldings image) policy file now
    → (row : MetaRow) × Takes policy file h (holdings_of row now)

-- nothing is found in files in which no database was made, or in which that was cut off
abbrev pub BlankIsNothing : Type 0
BlankIsNothing = (image : Image) (h : Holdings) → IsBlankImage image → FindsHoldings image h → h ≡ no_holdings

-- ---- files that are not opened, or not closed

-- files that no connection was made to: they are as they were, or what the store left of them, or of blank ones
pub data AreUnopened {D : Type 0} (g : Ghosts D) (start now : Files D) : Type 0 where
  unused : now ≡ start → AreUnopened g start now
  unread : (rest : Leftover D g) → (now.log, now.db) ≡ files_left rest
      → (AreClean g now.log now.db → LeavesFiles start rest) → AreUnopened g start now
  unmade : (rest : Leftover D g) → (now.log, now.db) ≡ files_left rest
      → (AreClean g now.log now.db → IsBlankImage (image_of g start) × LeavesBlank start rest)
      → AreUnopened g start now

-- the files of a connection that was let go: no crash has a new outcome, and where the store was open still, each
-- outcome holds what was committed
pub record AreLetGo {D : Type 0} {g : Ghosts D} (conn : Held (FileStore D g)) (now : Files D) : Type 0 where
  pub last : FileStore D g
  pub files_are : (now.log, now.db) ≡ files last
  pub closed : IsClosed conn last
  pub holds : IsTrue (view last).is_open → (image : Image) → outcomes g now.log now.db image
      → ∥ HoldsDatabase image (file_state conn).committed.trees ∥₁

-- files that no base was made of, and why
pub data AreRefused {D : Type 0} (g : Ghosts D) (policy : Policy) (file : SchemesFile) (start : Files D) (e : OpenFault)
    (now : Files D) : Type 0 where
  unopened : IsStoreOrMemory e → AreUnopened g start now → AreRefused g policy file start e now
  unadopted : (left : Held (FileStore D g)) → IsFoundUnadopted policy file (image_of g start) e left
      → (AreClean g now.log now.db → AreLetGo left now) → AreRefused g policy file start e now

-- Files of a connection that was not closed, which was open or shut. Where they are clean, the trees that they may
-- recover to are a database, which has this where it was open.
pub record MayKeep {D : Type 0} (g : Ghosts D) (is_open : Bool) (now : Files D) (h : Holdings) : Type 0 where
  pub last : FileStore D g
  pub files_are : (now.log, now.db) ≡ files last
  pub sound : AreClean g now.log now.db → AreDatabases (recovers last)
  pub finds : AreClean g now.log now.db → IsTrue is_open → (trees : Trees) → recovers last trees
      → (db : Database) × (db.trees ≡ trees) × IsDatabase db × HasHoldings db h

-- they keep what the base's tables have, where its connection was open
pub record AreUnclosed {D : Type 0} (g : Ghosts D) (b : BaseState) (now : Files D) : Type 0 where
  pub clean : AreClean g now.log now.db → IsClean b.tables
  pub may : IsClean b.tables
      → (row : MetaRow) × HasRow b row × MayKeep g b.tables.is_open now (holdings_of row (state_of b).now)
