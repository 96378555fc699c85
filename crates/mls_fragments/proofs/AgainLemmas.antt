-- What files keep is what a base over them finds.
use Rattle.std.proofs.Common.{Bool, false, not, IsTrue, ◌≡◌, ◌≢◌, inl, inr, List, [], ◌∷◌, length, refl, sym, ap, subst, ◌∙◌}
use Rattle.std.proofs.Math.Logic.{∥∥₁_elim, ∥∥₁_map}
use Rattle.std.specs.List.{AllZip}
use Rattle.sqlite_trees.specs.Objects.{catalog_tree}
use Rattle.sqlite_trees.specs.Props.{Trees-set}
use Rattle.sqlite_trees.specs.Tree.{Trees}
use Rattle.sqlite_trees.specs.View.{doubt}
use Rattle.sqlite_trees.proofs.Doubt.{no_doubt}
use Rattle.sqlite_disk.specs.declared.Disk.{Ghosts}
use Rattle.sqlite_disk.specs.declared.Files.{Files}
use Rattle.sqlite_wal.proofs.LogLemmas.{SeenMayStay}
use Rattle.sqlite_pool.specs.StoredLaws.{recovers_once}
use Rattle.sqlite_pool.proofs.StateLemmas.{settled, may_leave_is}
use Rattle.sqlite_store.specs.Laws.{stays_at}
use Rattle.sqlite_store.specs.FileStore.{schema_in, state as pool_state}
use Rattle.sqlite_store.specs.Listing.{file_trees}
use Rattle.sqlite.specs.Closing.{HoldsAlone, IsCopied, files_left}
use Rattle.sqlite.specs.Effect.{Database, IsDatabase}
use Rattle.sqlite.specs.Files.{HoldsDatabase, IsCleanLeft, image_of, file_state}
use Rattle.sqlite.specs.Held.{Held, AreDatabases}
use Rattle.sqlite.specs.declared.FileStore.{FileStore}
use Rattle.sqlite.specs.declared.file.Leftover.{Leftover}
use Rattle.sqlite.specs.declared.file.Leftover.TheVariants as left
use Rattle.sqlite.specs.FileStore.{view, files, recovers}
use Rattle.sqlite.specs.WalFiles.{outcomes}
use Rattle.sqlite.specs.WalReads.{AreClean, are_clean}
use Rattle.sqlite.proofs.OpenLemmas.{pool_files}
use Rattle.sqlite.proofs.Theorems.{opens_again}
use Rattle.sqlite.specs.Recovery.{Image}
use Rattle.mls_tables.specs.Rows.{tables_of}
use Rattle.mls_tables.specs.Schema.{HasTables, no_schema, schema}
use Rattle.mls_fragments.specs.Again.{BlankIsNothing, KeepsHoldings, empty, rows, IsKeptAlone, AreKept, KeptIsFound, KeptIsTaken}
use Rattle.mls_fragments.specs.Creating.{IsBlankImage}
use Rattle.mls_fragments.specs.Holdings.{Holdings, holdings_of, HaveHoldings, HasHoldings, no_tables, four_tables, Takes}
use Rattle.mls_fragments.specs.Opening.{IsFoundIn}
use Rattle.mls_fragments.proofs.HoldingsLemmas.{bare_has, has_some, have_once}

-- ---- schemas by the list of the objects

no_both : {A B : Type 0} (R : A → B → Type 0) (xs : List A) (y : B) (ys : List B) → AllZip R xs []
    → AllZip R xs (y ∷ ys) → ⊥
no_both R [] y ys none some = some
no_both R (x ∷ xs) y ys none some = none

zipped_none : {A B : Type 0} (R : A → B → Type 0) (xs : List A) (ys : List B) → AllZip R xs ys → xs ≡ [] → ys ≡ []
zipped_none R [] [] h e = refl
zipped_none R [] (y ∷ ys) h e = absurd h
zipped_none R (x ∷ xs) ys h e = absurd cc

-- trees that list the four tables list no other schema
not_without : (db other : Database) → HasTables db.schema → IsDatabase db → IsDatabase other → other.trees ≡ db.trees
    → other.schema ≢ no_schema
not_without db other ours sound found same none =
    let four : IsDatabase (record { schema = schema ours.others; trees = db.trees }) =
    subst (λ s. IsDatabase (record { schema = s; trees = db.trees })) ours.is sound in
    let bare : IsDatabase (record { schema = no_schema; trees = db.trees }) =
    subst (λ s. IsDatabase (record { schema = s; trees = db.trees })) none
    (subst (λ ts. IsDatabase (record { schema = other.schema; trees = ts })) same found) in
    no_both _ _ _ _ bare.lists.listed.tables four.lists.listed.tables

-- and trees that list nothing have none
pub without : (db : Database) → IsDatabase db → db.trees catalog_tree ≡ [] → db.schema ≡ no_schema
without db sound bare =
    let tables = zipped_none _ _ _ sound.lists.listed.tables (rw bare refl) in
    let indexes = zipped_none _ _ _ sound.lists.listed.indexes (rw bare refl) in
    let views = zipped_none _ _ _ sound.lists.listed.views (rw bare refl) in
    λ i. record { tables = tables i; indexes = indexes i; views = views i }

-- ---- files

module _ (image : Image) (found : Database) (finds : IsFoundIn image found) where
  same_trees : (db : Database) → ∥ HoldsDatabase image db.trees ∥₁ → found.trees ≡ db.trees
  same_trees db held = ∥∥₁_elim held (Trees-set found.trees db.trees) (λ h. finds.holds db.trees h)

  -- of blank files nothing is found
  found_blank : IsBlankImage image → found.schema ≡ no_schema
  found_blank blank = elim finds.reads [
    | inl bare ↦ without found finds.sound bare.1.1
    | inr some ↦ absurd
        (some.0 blank)
  ]

  -- nor of an empty file
  pub found_none : image.db ≡ [] → found.schema ≡ no_schema
  found_none none = found_blank (inl (ap length none))

-- what files keep is what is found in them
found_of : (image : Image) (found : Database) → IsFoundIn image found → (h k : Holdings) → KeepsHoldings image h
    → HasHoldings found k → h ≡ k
found_of image found finds h k (empty none is) (no_tables bare is') = is ∙ sym is'
found_of image found finds h k (empty none is) (four_tables ours form has) =
    absurd (has_some found ours (found_none image found finds none))
found_of image found finds h k (rows db held sound (no_tables bare is)) (no_tables bare' is') = is ∙ sym is'
found_of image found finds h k (rows db held sound (no_tables bare is)) (four_tables ours form has) =
    absurd (not_without found db ours finds.sound sound (sym (same_trees image found finds db held)) bare)
found_of image found finds h k (rows db held sound (four_tables ours form has)) (no_tables bare is) =
    absurd (not_without db found ours sound finds.sound (same_trees image found finds db held) bare)
found_of image found finds h k (rows db held sound (four_tables ours form has)) (four_tables theirs form' has') =
    have_once (tables_of found.trees) h k (subst (λ ts. HaveHoldings (tables_of ts) h)
    (sym (same_trees image found finds db held)) has) has'

pub kept_is_found : KeptIsFound
kept_is_found image h k kept found = found_of image found.0 found.1 h k kept found.2

pub blank_is_nothing : BlankIsNothing
blank_is_nothing image h blank found = bare_has found.0 h (found_blank image found.0 found.1 blank) found.2

pub kept_is_taken : KeptIsTaken
kept_is_taken policy file image h now kept taken = (
  taken.row,
  subst (λ x. Takes policy file x (holdings_of taken.row now))
      (sym (kept_is_found image h taken.had kept taken.was)) taken.takes,
)

-- ---- files that are let go

-- a store is clean where its files are
pub clean_store : {D : Type 0} {g : Ghosts D} (it : FileStore D g) (left : Files D) → (left.log, left.db) ≡ files it
    → AreClean g left.log left.db → doubt (view it).is_clean ≡ 0
clean_store {D} {g} it left same clean = no_doubt (view it).is_clean ((pool_files it.pool).1
    ∙ sym (ap (λ f. are_clean g f.0 f.1) same) ∙ clean)

-- so is what an open that failed leaves
pub clean_left : {D : Type 0} {g : Ghosts D} (rest : Leftover D g) (now : Files D) → (now.log, now.db) ≡ files_left rest
    → AreClean g now.log now.db → IsCleanLeft rest
clean_left {D} {g} (left.Files fs) now same clean = sym (ap (λ f. are_clean g f.0 f.1) same) ∙ clean
clean_left {D} {g} (left.Unopened it) now same clean = (pool_files it.pool).1 ∙ sym (ap (λ f. are_clean g f.0 f.1) same)
    ∙ clean
clean_left {D} {g} (left.Store it) now same clean = (pool_files it.pool).1 ∙ sym (ap (λ f. are_clean g f.0 f.1) same)
    ∙ clean

module _ {D : Type 0} {g : Ghosts D} (it : FileStore D g) (stays : SeenMayStay g) (on : IsTrue (view it).is_open) where
  -- an open store may recover to what it committed, and to nothing else
  pub only_commit : (trees : Trees) → recovers it trees → trees ≡ (view it).committed
  only_commit trees may =
      let s = settled it.pool stays on in
      let here = stays_at it stays on in
      ∥∥₁_elim may.3 (Trees-set trees (view it).committed) (λ there. ∥∥₁_elim here.3
      (Trees-set trees (view it).committed) (λ back.
      let size = (pool_state it).page_size in
      let same : may.1 ≡ here.1 = recovers_once size may.0 may.1 _ there (s.durable may.0 may.2)
      ∙ sym (recovers_once size here.0 here.1 _ back (s.durable here.0 here.2)) in
      may.4 ∙ ap (λ pages. file_trees size (schema_in it pages) pages) same ∙ sym here.4))

  -- each outcome of a crash holds it
  pub holds_commit : IsTrue (view it).is_numbered → AreDatabases (recovers it) → (now : Files D) → (now.log, now.db)
      ≡ files it → AreClean g now.log now.db
      → (image : Image) → outcomes g now.log now.db image → ∥ HoldsDatabase image (view it).committed ∥₁
  holds_commit numbered sound now same clean image may =
      let clean_now = subst (λ f. AreClean g f.0 f.1) same clean in
      let may_now = may_leave_is it.pool image clean_now (subst (λ f. outcomes g f.0 f.1 image) same may) in
      ∥∥₁_map (opens_again it numbered sound image may_now) (λ db. subst (HoldsDatabase image)
      (only_commit db.0 db.1) db.2)

-- ---- files that are closed

-- no transaction is begun
pub settled_in : (b begun : Bool) → b ≡ not begun → begun ≡ false → IsTrue b
settled_in b begun is none = is ∙ ap not none

module _ {D : Type 0} {g : Ghosts D} (conn : Held (FileStore D g)) (h : Holdings) (settled : (file_state conn).now
    ≡ (file_state conn).committed) (sound : IsDatabase (file_state conn).now)
    (has : HasHoldings (file_state conn).now h) where
  kept_in : (image : Image) → ∥ HoldsDatabase image (file_state conn).committed.trees ∥₁ → KeepsHoldings image h
  kept_in image held = rows (file_state conn).now (subst (λ (db : Database). ∥ HoldsDatabase image db.trees ∥₁)
      (sym settled) held) sound has

  kept_alone : (image : Image) → HoldsAlone image (file_state conn).committed.trees → IsKeptAlone image h
  kept_alone image held = record {
    both = kept_in image held.both;
    alone =
        kept_in (record image { log = [] }) held.alone;
  }

  -- they keep what the rows of the last commit have
  pub closed_keep : (left : Files D) → IsCopied conn left → AreKept g left h
  closed_keep left copied = record {
    seen = kept_alone (image_of g left) copied.seen;
    left =
        λ image may. kept_alone image (copied.left image may);
  }

  -- files that are not closed may recover to the trees of a database that has it
  pub unclosed_find : SeenMayStay g → IsTrue (file_state conn).is_open → (trees : Trees) → recovers conn.store trees
      → (db : Database) × (db.trees ≡ trees) × IsDatabase db × HasHoldings db h
  unclosed_find stays on trees may = (
    (file_state conn).now,
    ap (λ (db : Database). db.trees) settled ∙ sym (only_commit conn.store stays on trees may),
    sound,
    has,
  )
