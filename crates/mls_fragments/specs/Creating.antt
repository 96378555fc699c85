-- Databases that are made in files.
use Rattle.std.specs.Prelude.{◌⊎◌, ℕ, IsTrue}
use Rattle.sqlite_disk.specs.declared.Disk.{Ghosts}
use Rattle.sqlite_disk.specs.declared.Files.{Files}
use Rattle.sqlite_pool.specs.Opening.{IsBlankFile}
use Rattle.sqlite_store.specs.Unopened.{state_of}
use Rattle.sqlite_trees.specs.Tree.{Trees}
use Rattle.sqlite.specs.Effect.{IsDatabase}
use Rattle.sqlite.specs.Files.{HoldsDatabase, IsEmpty, file_state}
use Rattle.sqlite.specs.FileStore.{recovers, view}
use Rattle.sqlite.specs.Held.{Held}
use Rattle.sqlite.specs.Recovery.{Image}
use Rattle.sqlite.specs.Steps.{IsFresh}
use Rattle.sqlite.specs.WalFiles.{outcomes}
use Rattle.sqlite.specs.WalReads.{AreClean}
use Rattle.sqlite.specs.declared.FileStore.{FileStore}
use Rattle.sqlite.specs.declared.file.Leftover.{Leftover}
use Rattle.sqlite.specs.declared.file.Leftover.TheVariants as left

-- how long the pages of a new file are
abbrev pub page_bytes : ℕ
page_bytes = 1024

-- There is no database yet: the database file is empty, whatever its log holds, or is what a creation that a crash cut
-- off left of its first page.
abbrev pub IsBlankImage : Image → Type 0
IsBlankImage = IsBlankFile page_bytes

-- as a crash may leave files while a database is made in them: as they were, still blank, or with an empty database
abbrev pub IsOnTheWay : {D : Type 0} → Ghosts D → Files D → Image → Type 0
IsOnTheWay g start image =
    outcomes g start.log start.db image
    ⊎ (IsBlankImage image ⊎ ∥ ((db : Trees) × HoldsDatabase image db × IsEmpty db) ∥₁)

module _ {D : Type 0} {g : Ghosts D} where
  -- what is left of blank files where a database was not made, or not connected to
  abbrev pub LeavesBlank : Files D → Leftover D g → Type 0
  LeavesBlank start (left.Files now) =
      (image : Image) → outcomes g now.log now.db image → outcomes g start.log start.db image
  LeavesBlank start (left.Unopened now) = (image : Image) → (state_of now).may_leave image → IsOnTheWay g start image
  LeavesBlank start (left.Store now) = (found : Trees) → recovers now found → IsEmpty found

  -- a store that was made in files, with nothing in it
  pub record IsMadeIn (start : Files D) (it : FileStore D g) : Type 0 where
    pub honest : AreClean g start.log start.db
    pub fresh : IsFresh (view it)
    pub is_open : IsTrue (view it).is_open
    pub empty : IsEmpty (view it).trees

  -- a connection to one
  pub record IsConnectedIn (start : Files D) (c : Held (FileStore D g)) : Type 0 where
    pub honest : AreClean g start.log start.db
    pub empty : IsEmpty (file_state c).now.trees
    pub sound : IsDatabase (file_state c).now
