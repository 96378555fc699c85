-- What a crash leaves of files that no connection was made to, and of files that could not be closed.
use Rattle.std.proofs.Common.{◌≡◌, refl, subst, sym, inl, inr}
use Rattle.std.proofs.Math.Logic.{∥∥₁_map}
use Rattle.sqlite_disk.specs.declared.Disk.{Ghosts}
use Rattle.sqlite_disk.specs.declared.Files.{Files}
use Rattle.sqlite_pool.proofs.ResealLemmas.{adopts_of}
use Rattle.sqlite_pool.proofs.StateLemmas.{may_leave_is}
use Rattle.sqlite_store.specs.FileStore.{state, schema_in}
use Rattle.sqlite_store.specs.Listing.{file_trees}
use Rattle.sqlite_store.specs.declared.store.FileStore.{FileStore}
use Rattle.sqlite_store.specs.declared.store.open.Unopened.{Unopened}
use Rattle.sqlite_trees.specs.Tree.{Trees}
use Rattle.sqlite.specs.Closing.{files_left}
use Rattle.sqlite.specs.Effect.{Database, IsDatabase}
use Rattle.sqlite.specs.Files.{HoldsDatabase, IsEmpty, LeavesFiles, image_of}
use Rattle.sqlite.specs.FileStore.{files, recovers}
use Rattle.sqlite.specs.Recovery.{Image}
use Rattle.sqlite.specs.WalFiles.{outcomes}
use Rattle.sqlite.specs.WalReads.{AreClean}
use Rattle.sqlite.specs.declared.file.Leftover.{Leftover}
use Rattle.sqlite.specs.declared.file.Leftover.TheVariants as left
use Rattle.mls_fragments.specs.Again.{unused, unread, unmade}
use Rattle.mls_fragments.specs.Based.{state_of}
use Rattle.mls_fragments.specs.Creating.{IsBlankImage, LeavesBlank}
use Rattle.mls_fragments.specs.Holdings.{HasHoldings, holdings_of}
use Rattle.mls_stops.specs.Unclosed.{UnclosedFilesKeep}
use Rattle.mls_stops.specs.Unopened.{ReadsAs, MayBecome, as_it_was, same_pages, same_trees, nothing, empty, UnopenedFilesStay}

-- a database is what recovery reads
reads_held : (image : Image) (db : Trees) → HoldsDatabase image db → ReadsAs image db
reads_held image db held = (held.0, held.2.pages, held.2.wanted, held.2.found, held.2.reads)

reads_empty : (image : Image) → ∥ ((db : Trees) × HoldsDatabase image db × IsEmpty db) ∥₁
    → ∥ ((db : Trees) × ReadsAs image db × IsEmpty db) ∥₁
reads_empty image held = ∥∥₁_map held (λ h. let r : (db : Trees) × ReadsAs image db × IsEmpty db =
    (h.0, reads_held image h.0 h.1, h.2) in r)

module _ {D : Type 0} {g : Ghosts D} where
  -- each outcome of a store's files reads as trees that it may recover to
  recovered : (it : FileStore D g) (image : Image) → (P : Trees → Type 0) → ((db : Trees) → recovers it db → P db)
      → AreClean g (files it).0 (files it).1 → outcomes g (files it).0 (files it).1 image
      → ∥ ((db : Trees) × ReadsAs image db × P db) ∥₁
  recovered it image P each clean may =
      let left = may_leave_is it.pool image clean may in
      ∥∥₁_map it.safe (λ all.
      let found = all image left in
      let db : Trees = file_trees (state it).page_size (schema_in it found.0) found.0 in
      let reads : ReadsAs image db = (
        (state it).page_size,
        found.0,
        schema_in it found.0,
        adopts_of (state it).page_size image found.0 found.1,
        refl,
      ) in
      let r : (db : Trees) × ReadsAs image db × P db =
      (db, reads, each db (image, found.0, left, ∣ found.1 ∣₁, refl)) in r)

  leaves : (start : Files D) (rest : Leftover D g) → LeavesFiles start rest
      → AreClean g (files_left rest).0 (files_left rest).1 → (image : Image)
      → outcomes g (files_left rest).0 (files_left rest).1 image → MayBecome g start image
  leaves start (left.Files now) h clean image may = as_it_was (h image may)
  leaves start (left.Unopened it) (inl none) clean image may =
      elim (none.1 image (may_leave_is it.pool image clean may)) [
        | inl was ↦ as_it_was was
        | inr way ↦ elim way [
          | inl blank ↦ nothing (inr none.0) (inr blank)
          | inr made ↦ empty (inr none.0) (reads_empty image made)
        ]
      ]
  leaves start (left.Unopened it) (inr some) clean image may =
      elim (some.4 image (may_leave_is it.pool image clean may)).same [
        | inl was ↦ as_it_was was
        | inr stands ↦ same_pages _ stands
      ]
  leaves start (left.Store it) h clean image may =
      same_trees (recovered it image _ (λ db found. (h db found).0) clean may)

  leaves_none : (start : Files D) (rest : Leftover D g) → IsBlankImage (image_of g start) → LeavesBlank start rest
      → AreClean g (files_left rest).0 (files_left rest).1 → (image : Image)
      → outcomes g (files_left rest).0 (files_left rest).1 image → MayBecome g start image
  leaves_none start (left.Files now) blank h clean image may = as_it_was (h image may)
  leaves_none start (left.Unopened it) blank h clean image may =
      elim (h image (may_leave_is it.pool image clean may)) [
        | inl was ↦ as_it_was was
        | inr way ↦ elim way [
          | inl still ↦ nothing (inl blank) (inl still)
          | inr made ↦ empty (inl blank) (reads_empty image made)
        ]
      ]
  leaves_none start (left.Store it) blank h clean image may =
      empty (inl blank) (recovered it image _ h clean may)

  at_left : (now : Files D) (rest : Leftover D g) → (now.log, now.db) ≡ files_left rest → AreClean g now.log now.db
      → AreClean g (files_left rest).0 (files_left rest).1
  at_left now rest same clean = subst (λ (f : D × D). AreClean g f.0 f.1) same clean

  may_left : (now : Files D) (rest : Leftover D g) → (now.log, now.db) ≡ files_left rest → (image : Image)
      → outcomes g now.log now.db image → outcomes g (files_left rest).0 (files_left rest).1 image
  may_left now rest same image may = subst (λ (f : D × D). outcomes g f.0 f.1 image) same may

pub unopened_files_stay : {D : Type 0} (g : Ghosts D) → UnopenedFilesStay g
unopened_files_stay {D} g start now (unused same) clean image may =
    as_it_was (subst (λ (f : Files D). outcomes g f.log f.db image) same may)
unopened_files_stay {D} g start now (unread rest same h) clean image may =
    leaves start rest (h clean) (at_left now rest same clean) image (may_left now rest same image may)
unopened_files_stay {D} g start now (unmade rest same h) clean image may =
    leaves_none start rest (h clean).0 (h clean).1 (at_left now rest same clean) image (may_left now rest same image may)

-- ---- files that could not be closed

pub unclosed_files_keep : {D : Type 0} (g : Ghosts D) → UnclosedFilesKeep g
unclosed_files_keep {D} g b now h clean =
    let found = h.may (h.clean clean) in
    let m = found.2 in
    let holdings = holdings_of found.0 (state_of b).now in
    let clean_last = subst (λ (f : D × D). AreClean g f.0 f.1) m.files_are clean in
    let may_last : (image : Image) → outcomes g now.log now.db image
    → outcomes g (files m.last).0 (files m.last).1 image
    = λ image may. subst (λ (f : D × D). outcomes g f.0 f.1 image) m.files_are may in
    let IsHeld : Trees → Type 0 = λ trees. (db : Database) × (db.trees ≡ trees) × IsDatabase db in
    let Holds : Trees → Type 0 = λ trees. (db : Database) × (db.trees ≡ trees) × IsDatabase db × HasHoldings db holdings
    in (
      found.0,
      found.1,
      record {
        each = λ image may. ∥∥₁_map (recovered m.last image IsHeld (λ trees back. let it = m.sound clean trees back in
            let db : Database = record { schema = it.0; trees = trees } in (db, refl, it.1)) clean_last
            (may_last image may)) (λ r. let of : (db : Database) × ReadsAs image db.trees × IsDatabase db =
            (r.2.0, subst (ReadsAs image) (sym r.2.1) r.1, r.2.2) in of);
        keeps = λ is_open image may. ∥∥₁_map (recovered m.last image Holds (λ trees back. m.finds clean is_open trees
            back) clean_last (may_last image may))
            (λ r. let of : (db : Database) × ReadsAs image db.trees × IsDatabase db × HasHoldings db holdings =
            (r.2.0, subst (ReadsAs image) (sym r.2.1) r.1, r.2.2, r.2.3) in of);
      },
    )
