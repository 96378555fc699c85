-- What the rows of a store hold.
use Rattle.std.specs.Prelude.{◌≡◌, ℕ, suc, ◌<◌, ◌≤◌, pos, Bool, ◌&&◌, nat_eq, nat_lt, List, [], ◌∷◌, ◌++◌, map, length}
use Rattle.std.specs.Prelude.{slice_index_or, Option, Some, IfSome, IsPermutation, filter, flat_map}
use Rattle.std.specs.List.{AllByRecursion, list_all}
use Rattle.std.specs.List.Sorted.{IsStrictlySortedBy}
use Rattle.std.specs.FinMap.{get}
use Rattle.std.specs.Map.{lookup, keys_of}
use Rattle.std.specs.BTreeMap.{is_at}
use Rattle.mls_lattice.specs.declared.failed.Failed.{Failed}
use Rattle.mls_lattice.specs.declared.failed.Failed.TheVariants.{Memory}
use Rattle.mls_lattice.specs.Labels.{Labels}
use Rattle.mls_lattice.specs.Policy.{Policy, labels_of}
use Rattle.mls_scheme.specs.declared.value.Value.{Value}
use Rattle.mls_scheme.specs.declared.tuple.Element.{Element}
use Rattle.mls_scheme.specs.declared.place.Place.{Place}
use Rattle.mls_scheme.specs.Spelling.{HasSpelling, IsSpelledKey}
use Rattle.mls_scheme.specs.Scheme.{Schemes, scheme_of, AreSchemes}
use Rattle.mls_scheme.specs.Table.{place_cmp, Table}
use Rattle.mls_filterview.specs.declared.fragment.Node.{Node}
use Rattle.mls_filterview.specs.declared.fragment.Cell.{Cell}
use Rattle.mls_filterview.specs.Fragment.{node_of, cells_of}
use Rattle.mls_filterview.specs.Assembly.{CellPlace, AreValues, AreRows}
use Rattle.mls_filterview.specs.Stored.{Occurs, IsContent, AreContent}
use Rattle.mls_audit.specs.Spelling.{IsEntryOf}
use Rattle.mls_filterview.specs.Content.{Content}
use Rattle.mls_tables.specs.declared.rows.NodeRow.{NodeRow}
use Rattle.mls_tables.specs.declared.rows.CellRow.{CellRow}
use Rattle.mls_tables.specs.declared.adopting.AllRows.{AllRows}
use Rattle.mls_tables.specs.Adopting.{AreAll}
use Rattle.mls_tables.specs.Rows.{Tables}
use Rattle.mls_rows.specs.declared.reading.BadRow.{BadRow}
use Rattle.mls_rows.specs.declared.finding.Found.{Found}
use Rattle.mls_rows.specs.Changes.{Entries, table_in, found}
use Rattle.mls_rows.specs.Holding.{Holds, node_row, cell_row, IsSpelledNode, IsSpelledCell}

-- ---- rows that can be read

abbrev pub IsMemory : Failed BadRow → Type 0
IsMemory e = e ≡ Memory

-- the row of a node with a spelled key and classes of one byte
pub record IsNodeRow (r : NodeRow) : Type 0 where
  pub node : Node
  pub spelled : IsSpelledNode node
  pub key_class : node.key_class < 256
  pub label : node.label < 256
  pub is : r ≡ node_row r.rel node

-- the row of a cell with a spelled key, a spelled value or null, and classes of one byte
pub record IsCellRow (r : CellRow) : Type 0 where
  pub cell : Cell
  pub spelled : IsSpelledCell cell
  pub key_class : cell.key_class < 256
  pub label : cell.label < 256
  pub is : r ≡ cell_row r.rel cell

-- the classes of all tuples are numbers of one byte, so a row that does not read shows that its store is not
-- clean
abbrev pub HasByteClasses : Content → Type 0
HasByteClasses c = (relation : ℕ) (p : Place) (es : List Element) → get (c.db relation) p ≡ Some es
    → (p.key_class < 256)
    × (p.class < 256)

-- the rows are those of content, and each can be read
abbrev pub AreReadable : Tables → Type 0
AreReadable t = (c : Content) × Holds t c × HasByteClasses c

-- ---- tuples put together from rows

-- a tuple whose key and values have spellings
abbrev pub IsSpelledEntry : Place × List Element → Type 0
IsSpelledEntry e = IsSpelledKey e.0.key × AllByRecursion (λ x. IfSome x.value HasSpelling) e.1

-- tuples put together from the nodes and the cells of one relation
pub record IsAssembled (relation : ℕ) (nodes : List NodeRow) (cells : List CellRow) (es : Entries) : Type 0 where
  pub ns : List Node
  pub cs : List Cell
  pub held : CellPlace → Option (Option Value)
  pub nodes_are : map (node_row relation) ns ≡ filter (λ r. nat_eq r.rel relation) nodes
  pub cells_are : map (cell_row relation) cs ≡ filter (λ r. nat_eq r.rel relation) cells
  pub nodes_spelled : AllByRecursion IsSpelledNode ns
  pub cells_spelled : AllByRecursion IsSpelledCell cs
  pub values : AreValues cs held
  pub sorted : IsStrictlySortedBy place_cmp (keys_of es)
  pub rows : AreRows held ns (λ q. lookup (is_at (place_cmp q)) es)

abbrev pub AreAssembled : List NodeRow → List CellRow → List Entries → Type 0
AreAssembled nodes cells tables = (relation : ℕ) → relation < length tables
    → IsAssembled relation nodes cells (slice_index_or tables relation [])

-- the tables of relations, each of the stored form with the kinds and intervals of its scheme
abbrev pub AreTables : Labels → Schemes → List Entries → Type 0
AreTables ls schemes tables = (relation : ℕ) → relation < length tables
    → IsContent ls (scheme_of schemes relation) (table_in tables relation)

-- ---- stores of older schemes

-- whether the classes of a tuple are among the first labels
abbrev pub is_within : ℕ → NodeRow → Bool
is_within labels r = nat_lt r.kclass labels && list_all (λ m. nat_lt m labels) r.pattern

-- so are those of all tuples of a table
abbrev pub AreWithin : ℕ → Table → Type 0
AreWithin labels T = (p : Place) (es : List Element) → get T p ≡ Some es → (m : ℕ) → Occurs p es m → m < labels

-- sound content in which the first labels alone occur
pub record IsSoundWithin (policy : Policy) (schemes : Schemes) (labels : ℕ) (c : Content) : Type 0 where
  pub content : AreContent (labels_of policy) schemes c.db
  pub classes : (relation : ℕ) → AreWithin labels (c.db relation)
  pub entries : AllByRecursion (IsEntryOf labels) c.audit

-- what is found
abbrev pub content_found : Found → Content
content_found f = found (map (λ t. t.entries) f.tables.items) f.entries

-- all rows of a store, put together: sound content in which the first labels alone occur
pub record HasFound (policy : Policy) (schemes : Schemes) (labels : ℕ) (rows : AllRows) (f : Found) : Type 0 where
  pub held : (t : Tables) → AreAll t rows → Holds t (content_found f)
  pub sound : IsSoundWithin policy schemes labels (content_found f)
  pub classes : HasByteClasses (content_found f)
  pub few : length policy.labels ≤ 64
  pub spelled : AllByRecursion (λ t. AllByRecursion IsSpelledEntry t.entries) f.tables.items
  pub sorted : AllByRecursion (λ t. IsStrictlySortedBy place_cmp (keys_of t.entries)) f.tables.items
  pub count : length f.tables.items ≡ length schemes
  pub valid : AreSchemes schemes
  pub last : f.last ≡ pos (length f.entries)

-- two lists have the same rows of each relation
abbrev pub AreAlike : {R : Type 0} → (R → ℕ) → List R → List R → Type 0
AreAlike rel_of xs ys = (relation : ℕ)
    → IsPermutation (filter (λ r. nat_eq (rel_of r) relation) xs) (filter (λ r. nat_eq (rel_of r) relation) ys)

-- the rows of tables, which are numbered from k
abbrev pub node_rows : ℕ → List Entries → List NodeRow
node_rows k [] = []
node_rows k (es ∷ tables) = map (node_row k) (map node_of es) ++ node_rows (suc k) tables

abbrev pub cell_rows : ℕ → List Entries → List CellRow
cell_rows k [] = []
cell_rows k (es ∷ tables) = map (cell_row k) (flat_map cells_of es) ++ cell_rows (suc k) tables
