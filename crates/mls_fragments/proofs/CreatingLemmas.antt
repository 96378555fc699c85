-- What a creation in files makes and leaves, and what an open leaves of files that were read first.
use Rattle.std.proofs.Common.{◌≡◌, ◌⊎◌, ℕ, ◌≤◌, true, [], IsTrue, inl, inr, refl, sym, ap, subst, subst₂, ◌∙◌, arith}
use Rattle.std.proofs.Math.Logic.{∥∥₁_map}
use Rattle.sqlite_disk.specs.declared.Disk.{Ghosts}
use Rattle.sqlite_disk.specs.declared.Files.{Files}
use Rattle.sqlite_pool.specs.Opening.{IsBlankFile, IsNew}
use Rattle.sqlite_pool.specs.Stored.{Recovers, IsUnreadable, StandsAs, stored_size, reserved}
use Rattle.sqlite_pool.specs.StoredLaws.{trimmed_whole}
use Rattle.sqlite_pool.specs.File.{version_in, in_use}
use Rattle.sqlite_pool.proofs.ProbeLemmas.{not_blank}
use Rattle.sqlite_pool.proofs.ResealLemmas.{adopts_of}
use Rattle.sqlite_store.specs.Db.{trees_in}
use Rattle.sqlite_store.specs.Listed.{catalog_rows}
use Rattle.sqlite_store.specs.Listing.{all_trees, file_trees, IsOurs}
use Rattle.sqlite_store.specs.Opening.{IsFresh}
use Rattle.sqlite_store.specs.Unopened.{Creates, files_of, image, state_of, wanted_by}
use Rattle.sqlite_store.specs.declared.store.open.Unopened.{Unopened}
use Rattle.sqlite_store.proofs.BuildLemmas.{new_is_empty}
use Rattle.sqlite_store.proofs.ListingLemmas.{past_version, named_tree}
use Rattle.sqlite_trees.specs.Tree.{Trees}
use Rattle.sqlite_wal.specs.Files.{seen_image, outcomes}
use Rattle.sqlite_wal.specs.PageSize.{IsPageSize}
use Rattle.sqlite_wal.specs.Reads.{AreClean, OnlyReads, are_clean}
use Rattle.sqlite_wal.specs.Recovery.{Image, Pages, AreWhole}
use Rattle.sqlite_wal.specs.State.{State}
use Rattle.sqlite.specs.Files.{AreFoundIn, BeginsWell, HoldsDatabase, IsEmpty, IsKept, IsNothing, LeavesFiles, NamesSize, SaysSums, image_of}
use Rattle.sqlite.specs.declared.file.Leftover.{Leftover}
use Rattle.sqlite.specs.declared.file.Leftover.TheVariants as left
use Rattle.sqlite.proofs.FileLemmas.{same_image}
use Rattle.sqlite.proofs.ListingLemmas.{empty_is_sound}
use Rattle.sqlite.proofs.OpenLemmas.{pool_files}
use Rattle.mls_fragments.specs.Creating.{IsBlankImage, IsOnTheWay, LeavesBlank, page_bytes}

-- files that hold a database are not blank
pub never_blank : (image : Image) (db : Trees) → HoldsDatabase image db → ¬ IsBlankImage image
never_blank image db held =
    let large : 504 ≤ held.0 = (let few : reserved held.0 ≤ 8 = grind arith in omega (arith, held.1.0)) in
    not_blank held.0 image held.2.pages held.2.found large held.2.ours.file.sound page_bytes (omega arith)

-- ---- what a creation leaves

a_size : IsPageSize (stored_size page_bytes)
a_size = (omega arith, omega arith, refl, refl)

empty_database : (left : Image) (pages : Pages) → Recovers page_bytes left pages → IsOurs page_bytes true [] pages
    → (db : Trees) × HoldsDatabase left db × IsEmpty db
unfolding trees_in
empty_database left pages found ours =
    let db = file_trees page_bytes [] pages in
    let unlisted = catalog_rows page_bytes [] (in_use page_bytes pages) in (
      db,
      (
        page_bytes,
        a_size,
        record {
          pages = pages;
          wanted = [];
          schema = _;
          found =
              adopts_of page_bytes left pages found;
          ours = ours;
          reads = refl;
          sound = empty_is_sound db unlisted;
        },
      ),
      (
        λ tree low. past_version tree low (all_trees page_bytes [] (in_use page_bytes pages)) (version_in pages)
            ∙ named_tree tree low page_bytes [] (in_use page_bytes pages),
        unlisted,
      ),
    )

on_the_way : (left : Image)
    → IsBlankImage left ⊎ ((pages : Pages) × Recovers page_bytes left pages × (IsNew page_bytes pages
    ⊎ ∥ IsFresh page_bytes [] pages ∥₁))
    → IsBlankImage left ⊎ ∥ ((db : Trees) × HoldsDatabase left db × IsEmpty db) ∥₁
on_the_way left (inl blank) = inl blank
on_the_way left (inr made) =
    inr (elim made.2 [
      | inl new ↦
          let whole : AreWhole page_bytes made.0 = subst (AreWhole page_bytes) made.1.shows
          (trimmed_whole page_bytes made.1.stored made.1.whole) in
          let empty = new_is_empty page_bytes made.0 whole new in
          ∣ empty_database left made.0 made.1 (record {
            file = empty.0;
            numbered = λ _. record {
              listed = empty.1;
              spaced = refl;
              ordered = refl;
            };
          }) ∣₁
      | inr fresh ↦ ∥∥₁_map fresh (λ it. empty_database left made.0 made.1 it.0)
    ])

module _ {D : Type 0} {g : Ghosts D} (files : Files D) (fresh : Unopened D g) (same : files_of fresh
    ≡ (files.log, files.db)) where
  pub clean_before : IsTrue (state_of fresh).is_clean → AreClean g files.log files.db
  clean_before clean = sym ((pool_files fresh.pool).1 ∙ ap (λ f. are_clean g f.0 f.1) same) ∙ clean

  -- of blank files a crash leaves what a creation goes through
  pub leaves_blank : (state_of fresh).page_size ≡ page_bytes → wanted_by fresh ≡ [] → IsBlankImage (image_of g files)
      → (now : State) → Creates fresh now
      → (left : Image) → now.may_leave left → IsOnTheWay g files left
  leaves_blank size none blank now made left may =
      let seen : image fresh ≡ image_of g files = ap (λ f. seen_image g f.0 f.1) same in
      elim (made.blank (subst₂ IsBlankFile (sym size) (sym seen) blank) left may) [
        | inl was ↦ inl (subst (λ f. outcomes g f.0 f.1 left) same ((pool_files fresh.pool).2 left was))
        | inr way ↦ inr (on_the_way left (rw (size, none) at way))
      ]

-- ---- what an open leaves of files that were read before it

module _ {D : Type 0} {g : Ghosts D} (start read : Files D) (log : OnlyReads g start.log read.log)
    (db : OnlyReads g start.db read.db) where
  outcomes_before : (left : Image) → outcomes g read.log read.db left → outcomes g start.log start.db left
  outcomes_before left may = (log.crash _ may.0, db.crash _ may.1)

  kept_before : (size : ℕ) (left : Image) → IsKept g read size left → IsKept g start size left
  kept_before size left kept =
      let seen : image_of g read ≡ image_of g start = same_image log db in
      record {
        same = elim kept.same [
          | inl was ↦ inl (outcomes_before left was)
          | inr stands ↦ inr
              (subst (λ i. StandsAs size i left) seen stands)
        ];
        unread = λ unreadable. outcomes_before left (kept.unread (subst (IsUnreadable size) (sym seen) unreadable));
        something = λ new. kept.something (λ was. new (outcomes_before left was));
      }

  pub leaves_before : (rest : Leftover D g) → LeavesFiles read rest → LeavesFiles start rest
  leaves_before (left.Files now) leaves = λ left may. outcomes_before left (leaves left may)
  leaves_before (left.Unopened now) (inl nothing) = inl (
    subst IsNothing (same_image log db) nothing.0,
    λ left may. elim (nothing.1 left may) [ inl was ↦ inl (outcomes_before left was) | inr way ↦ inr way ],
  )
  leaves_before (left.Unopened now) (inr opened) =
      let seen : image_of g read ≡ image_of g start = same_image log db in
      let size = (state_of now).page_size in
      inr (
        (λ nothing. opened.0 (subst IsNothing (sym seen) nothing)),
        subst (λ i. NamesSize i (stored_size size)) seen opened.1,
        subst (BeginsWell (stored_size size)) seen opened.2,
        (λ sums. subst (SaysSums (stored_size size)) seen (opened.3 sums)),
        λ left may. kept_before size left (opened.4 left may),
      )
  leaves_before (left.Store now) leaves = λ found may.
      let seen : image_of g read ≡ image_of g start = same_image log db in
      let was = leaves found may in (
        subst (λ i. AreFoundIn i found) seen was.0,
        λ trees held. was.1 trees (subst (λ i. HoldsDatabase i trees)
            (sym seen) held),
      )

  -- the same, of blank files
  pub blank_before : (rest : Leftover D g) → LeavesBlank read rest → LeavesBlank start rest
  blank_before (left.Files now) leaves = λ left may. outcomes_before left (leaves left may)
  blank_before (left.Unopened now) leaves = λ left may. elim (leaves left may) [
    | inl was ↦ inl
        (outcomes_before left was)
    | inr way ↦ inr way
  ]
  blank_before (left.Store now) leaves = leaves
