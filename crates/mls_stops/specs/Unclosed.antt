-- What a crash leaves of files that could not be closed.
use Rattle.std.specs.Prelude.{IsTrue}
use Rattle.sqlite_disk.specs.declared.Disk.{Ghosts}
use Rattle.sqlite_disk.specs.declared.Files.{Files}
use Rattle.sqlite.specs.Effect.{Database, IsDatabase}
use Rattle.sqlite.specs.Recovery.{Image}
use Rattle.sqlite.specs.WalFiles.{outcomes}
use Rattle.sqlite.specs.WalReads.{AreClean}
use Rattle.mls_tables.specs.declared.rows.MetaRow.{MetaRow}
use Rattle.mls_fragments.specs.Again.{AreUnclosed}
use Rattle.mls_fragments.specs.Based.{BaseState, HasRow, state_of}
use Rattle.mls_fragments.specs.Holdings.{Holdings, HasHoldings, holdings_of}
use Rattle.mls_stops.specs.Unopened.{ReadsAs}

-- recovery finds pages that read as a database
abbrev pub ReadsAsDatabase : Image → Type 0
ReadsAsDatabase image = ∥ ((db : Database) × ReadsAs image db.trees × IsDatabase db) ∥₁

-- which has this
abbrev pub ReadsAsHolding : Image → Holdings → Type 0
ReadsAsHolding image h = ∥ ((db : Database) × ReadsAs image db.trees × IsDatabase db × HasHoldings db h) ∥₁

-- each image that a crash may leave does the first; and the second, where the connection of the base was open
pub record EachKeeps {D : Type 0} (g : Ghosts D) (b : BaseState) (now : Files D) (h : Holdings) : Type 0 where
  pub each : (image : Image) → outcomes g now.log now.db image → ReadsAsDatabase image
  pub keeps : IsTrue b.tables.is_open → (image : Image) → outcomes g now.log now.db image → ReadsAsHolding image h

-- what the base's tables have stays in files that could not be closed
abbrev pub UnclosedFilesKeep : {D : Type 0} → Ghosts D → Type 0
UnclosedFilesKeep {D} g =
    (b : BaseState) (now : Files D) → AreUnclosed g b now → AreClean g now.log now.db
    → (row : MetaRow) × HasRow b row × EachKeeps g b now (holdings_of row (state_of b).now)
