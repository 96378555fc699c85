-- What a crash leaves of files that no connection was made to.
use Rattle.std.specs.Prelude.{◌≡◌, ◌⊎◌, ℕ, List}
use Rattle.sqlite_disk.specs.declared.Disk.{Ghosts}
use Rattle.sqlite_disk.specs.declared.Files.{Files}
use Rattle.sqlite_pages.specs.PageMap.{PageMap}
use Rattle.sqlite_pool.specs.Stored.{Adopts, StandsAs}
use Rattle.sqlite_store.specs.declared.catalog.Wanted.{Wanted}
use Rattle.sqlite_store.specs.Listing.{file_trees}
use Rattle.sqlite_trees.specs.Tree.{Trees}
use Rattle.sqlite.specs.Files.{AreFoundIn, IsEmpty, IsNothing, image_of}
use Rattle.sqlite.specs.Recovery.{Image}
use Rattle.sqlite.specs.WalFiles.{outcomes}
use Rattle.sqlite.specs.WalReads.{AreClean}
use Rattle.mls_fragments.specs.Again.{AreUnopened}
use Rattle.mls_fragments.specs.Creating.{IsBlankImage}

-- there is no database yet, for our pages or for the kit's
abbrev pub HasNothing : Image → Type 0
HasNothing image = IsBlankImage image ⊎ IsNothing image

-- recovery finds pages that read as these trees
abbrev pub ReadsAs : Image → Trees → Type 0
ReadsAs image db = (size : ℕ) × (pages : PageMap) × (wanted : List Wanted) × Adopts size image pages
    × (db ≡ file_trees size wanted pages)

module _ {D : Type 0} (g : Ghosts D) (start : Files D) where
  -- an image that a crash may leave was one before; or it has the same pages, perhaps with sums; or the database that
  -- an opening finds in the files; or, where there was none, there still is none, or an empty one
  pub data MayBecome (image : Image) : Type 0 where
    as_it_was : outcomes g start.log start.db image → MayBecome image
    same_pages : (size : ℕ) → StandsAs size (image_of g start) image → MayBecome image
    same_trees : ∥ ((db : Trees) × ReadsAs image db × AreFoundIn (image_of g start) db) ∥₁ → MayBecome image
    nothing : HasNothing (image_of g start) → HasNothing image → MayBecome image
    empty : HasNothing (image_of g start) → ∥ ((db : Trees) × ReadsAs image db × IsEmpty db) ∥₁ → MayBecome image

-- files that are not opened become nothing else
abbrev pub UnopenedFilesStay : {D : Type 0} → Ghosts D → Type 0
UnopenedFilesStay {D} g =
    (start now : Files D) → AreUnopened g start now → AreClean g now.log now.db
    → (image : Image) → outcomes g now.log now.db image → MayBecome g start image
