-- Stores of older policies and schemes, and content under schemes with more attributes.
use Rattle.std.specs.Prelude.{◌≡◌, ◌⊎◌, ℕ, suc, ◌-◌, ◌≤◌, pos, List, [], ◌∷◌, length, map, slice_index_or}
use Rattle.std.specs.Prelude.{IsPermutation, None, ◌↔◌}
use Rattle.std.specs.FinMap.{get}
use Rattle.std.specs.List.{AllByRecursion}
use Rattle.mls_lattice.specs.Labels.{Labels}
use Rattle.mls_lattice.specs.Policy.{Policy, labels_of}
use Rattle.mls_lattice.specs.declared.version.Version.TheVariants.{Two}
use Rattle.mls_lattice.specs.Canon as lattice
use Rattle.mls_lattice.specs.Extending as older_lattice
use Rattle.mls_scheme.specs.declared.file.SchemesFile.{SchemesFile}
use Rattle.mls_scheme.specs.Scheme.{Schemes, scheme_of}
use Rattle.mls_scheme.specs.declared.place.Place.{Place}
use Rattle.mls_scheme.specs.declared.tuple.Tuple.{Tuple}
use Rattle.mls_scheme.specs.Table.{IsIn}
use Rattle.mls_scheme.specs.Canon as scheme
use Rattle.mls_scheme.specs.Extending as older_schemes
use Rattle.mls_filterview.specs.Content.{Content}
use Rattle.mls_filterview.specs.View.{View}
use Rattle.mls_filterview.specs.Widen.{IsWidened, Widen, widened_entry}
use Rattle.mls_audit.specs.Sound.{IsSoundContent}
use Rattle.mls_tables.specs.declared.rows.MetaRow.{MetaRow}
use Rattle.mls_tables.specs.declared.adopting.AllRows.{AllRows}
use Rattle.mls_tables.specs.Adopting.{AreAll}
use Rattle.mls_tables.specs.Rows.{Tables, numbered}
use Rattle.mls_fragments.specs.declared.migrating.Lineage.{Lineage}
use Rattle.mls_fragments.specs.declared.migrating.Lineage.TheVariants.{Same, Older}
use Rattle.mls_rows.specs.Changes.{Entries}
use Rattle.mls_rows.specs.declared.finding.Found.{Found}
use Rattle.mls_rows.specs.Finding.{HasByteClasses, IsSoundWithin, IsSpelledEntry, content_found, node_rows, cell_rows}
use Rattle.mls_rows.specs.Holding.{Holds}

-- ---- what the description of a store says to a policy and schemes

-- both texts are theirs
abbrev pub HasTexts : Policy → SchemesFile → MetaRow → Type 0
HasTexts policy file m = (m.lattice ≡ lattice.lattice_of policy)
    × (m.schemes ≡ scheme.canon_of policy file.version file.schemes)

-- Not both texts are theirs, and they extend both; where a text is not theirs, its file is of version 2. The store's
-- labels are the first ones, and its relations have so many attributes outside their keys.
pub record IsExtended (policy : Policy) (file : SchemesFile) (m : MetaRow) (labels : ℕ) (counts : List ℕ) : Type 0 where
  pub other : ¬ HasTexts policy file m
  pub labels_are : older_lattice.Extends policy m.lattice labels
  pub policy_version : (m.lattice ≡ lattice.lattice_of policy) ⊎ (policy.version ≡ Two)
  pub counts_are : older_schemes.Extends policy file.schemes m.schemes counts
  pub file_version : (m.schemes ≡ scheme.canon_of policy file.version file.schemes) ⊎ (file.version ≡ Two)

-- the store is of another policy or of other schemes
pub record IsOther (policy : Policy) (file : SchemesFile) (m : MetaRow) : Type 0 where
  pub other : ¬ HasTexts policy file m
  pub not_older : (labels : ℕ) (counts : List ℕ) → ¬ IsExtended policy file m labels counts

abbrev pub IsLineage : Policy → SchemesFile → MetaRow → Lineage → Type 0
IsLineage policy file m Same = HasTexts policy file m
IsLineage policy file m (Older older) = IsExtended policy file m older.labels older.counts.items

-- ---- content under more attributes

-- the labels and the attributes of an older store are the first ones, by what its texts say
pub record IsBefore (policy : Policy) (schemes : Schemes) (labels : ℕ) (counts : List ℕ) : Type 0 where
  pub few_labels : labels ≤ length policy.labels
  pub text : List ℕ
  pub extends : older_schemes.Extends policy schemes text counts

-- how many attributes a relation has behind the first so many
abbrev pub more : Schemes → List ℕ → ℕ → ℕ
more schemes counts relation = length (scheme_of schemes relation).others - slice_index_or counts relation 0

-- content that an older store may have
abbrev pub IsSoundBefore : Policy → Schemes → ℕ → List ℕ → Content → Type 0
IsSoundBefore policy schemes labels counts = IsSoundWithin policy (older_schemes.schemes_before counts schemes) labels

-- each relation is widened by its new attributes, and the audit list is the same
pub record IsWidenedContent (schemes : Schemes) (counts : List ℕ) (old new : Content) : Type 0 where
  pub tables : (relation : ℕ) → IsWidened (more schemes counts relation) (old.db relation) (new.db relation)
  pub audit : new.audit ≡ old.audit

-- tables of relations numbered from k, whose tuples are widened so
abbrev pub wide_tables : Schemes → List ℕ → ℕ → List Entries → List Entries
wide_tables schemes counts k [] = []
wide_tables schemes counts k (es ∷ tables) =
    map (widened_entry (more schemes counts k)) es ∷ wide_tables schemes counts (suc k) tables

-- all rows of an older store, put together and widened: sound content
pub record HasWidened (policy : Policy) (schemes : Schemes) (labels : ℕ) (counts : List ℕ) (rows : AllRows)
    (f : Found) : Type 0 where
  pub widened : (c : Content) × ((t : Tables) → AreAll t rows → Holds t c)
      × IsSoundBefore policy schemes labels counts c × IsWidenedContent schemes counts c (content_found f)
  pub sound : IsSoundContent policy schemes (content_found f)
  pub classes : HasByteClasses (content_found f)
  pub holds : (t : Tables) → IsPermutation (node_rows 0 (map (λ t. t.entries) f.tables.items)) t.nodes
      → IsPermutation (cell_rows 0 (map (λ t. t.entries) f.tables.items)) t.cells
      → IsPermutation (numbered 1 f.entries) t.audit → Holds t (content_found f)
  pub listed : (t : Tables) → AreAll t rows → IsPermutation (numbered 1 f.entries) t.audit
  pub spelled : AllByRecursion (λ t. AllByRecursion IsSpelledEntry t.entries) f.tables.items
  pub count : length f.tables.items ≤ 256
  pub last : f.last ≡ pos (length f.entries)

-- tables of few relations, whose keys and values have spellings
pub record AreSpelledTables (f : Found) : Type 0 where
  pub few : length f.tables.items ≤ 256
  pub spelled : AllByRecursion (λ t. AllByRecursion IsSpelledEntry t.entries) f.tables.items

-- ---- what is seen of content that is widened

-- Of a relation that is not new each label sees what it saw, widened by the new attributes; of a new one there is
-- nothing to see.
pub record IsSeenAlike (ls : Labels) (schemes : Schemes) (counts : List ℕ) (had now : Content) : Type 0 where
  pub older : (relation c : ℕ) (t : Tuple)
      → View ls (IsIn (now.db relation)) c t ↔ Widen (more schemes counts relation)
      (View ls (IsIn (had.db relation)) c) t
  pub newer : (relation : ℕ) → length counts ≤ relation → (p : Place) → get (now.db relation) p ≡ None

-- so of what the rows of an older store held
abbrev pub WidenedIsSeenAlike : Type 0
WidenedIsSeenAlike =
    (policy : Policy) (schemes : Schemes) (text : List ℕ) (labels : ℕ) (counts : List ℕ) (rows : Tables)
    (had now : Content)
    → older_schemes.Extends policy schemes text counts → Holds rows had → IsSoundBefore policy schemes labels counts had
    → IsWidenedContent schemes counts had now → IsSeenAlike (labels_of policy) schemes counts had now
