-- Parts of what a store holds: entities are told apart by relation and key.
use Rattle.std.specs.Prelude.{◌≡◌, ℕ, ◌≤◌, Bool, ◌&&◌, not, List, [], length, take, drop, filter}
use Rattle.std.specs.List.Sorted.{IsPartitionedBy}
use Rattle.std.specs.Cmp.Lexicographic.{slice_cmp}
use Rattle.std.specs.Ordering.{nat_cmp, ordering_then, is_lt}
use Rattle.std.specs.FinMap.{entries}
use Rattle.mls_lattice.specs.Policy.{Policy}
use Rattle.mls_scheme.specs.Spelling.{key_spelling}
use Rattle.mls_scheme.specs.Scheme.{Schemes}
use Rattle.mls_filterview.specs.Assembly.{table_of}
use Rattle.mls_filterview.specs.Content.{Content}
use Rattle.mls_tables.specs.declared.rows.NodeRow.{NodeRow}
use Rattle.mls_tables.specs.declared.rows.CellRow.{CellRow}
use Rattle.mls_tables.specs.declared.adopting.AllRows.{AllRows}
use Rattle.mls_tables.specs.Rows.{Tables}
use Rattle.mls_rows.specs.Finding.{IsSoundWithin}
use Rattle.mls_rows.specs.Holding.{HoldsTable}

-- whether a part has the entities of a relation with a key, which is given as bytes
abbrev pub Part : Type 0
Part = ℕ → List ℕ → Bool

-- the entities of a part that are not in another
abbrev pub outside : Part → Part → Part
outside q p rel ent = p rel ent && not (q rel ent)

abbrev pub both : Part → Part → Part
both p q rel ent = p rel ent && q rel ent

abbrev pub other : Part → Part
other q rel ent = not (q rel ent)

-- the rows of a part
abbrev pub nodes_of : Part → List NodeRow → List NodeRow
nodes_of q = filter (λ r. q r.rel r.ent)

abbrev pub cells_of : Part → List CellRow → List CellRow
cells_of q = filter (λ r. q r.rel r.ent)

abbrev pub rows_of : Part → Tables → Tables
rows_of q t = record { nodes = nodes_of q t.nodes; cells = cells_of q t.cells; audit = []; meta = [] }

-- the tuples of a part
abbrev pub content_of : Part → Content → Content
content_of q c = record {
  db = λ rel. table_of (filter (λ e. q rel (key_spelling e.0.key)) (entries (c.db rel)));
  audit = [];
}

-- ---- rows in order

-- the entities before one, by relation and key
abbrev pub before : ℕ → List ℕ → Part
before rel ent r e = is_lt (ordering_then (nat_cmp r rel) (slice_cmp nat_cmp e ent))

-- no row stands before one of an earlier entity
abbrev pub AreNodesInOrder : List NodeRow → Type 0
AreNodesInOrder rows = (rel : ℕ) (ent : List ℕ) → IsPartitionedBy (λ r. before rel ent r.rel r.ent) rows

abbrev pub AreCellsInOrder : List CellRow → Type 0
AreCellsInOrder rows = (rel : ℕ) (ent : List ℕ) → IsPartitionedBy (λ r. before rel ent r.rel r.ent) rows

-- the rows that pass a test come first, and then all others
pub record IsCut {R : Type 0} (test : R → Bool) (rows : List R) (at : ℕ) : Type 0 where
  pub bound : at ≤ length rows
  pub first : take at rows ≡ filter test rows
  pub last : drop at rows ≡ filter (λ r. not (test r)) rows

-- a part of nodes and cells is taken off them
pub record IsTakenOff (q : Part) (nodes left_nodes : List NodeRow) (cells left_cells : List CellRow)
    (part : AllRows) : Type 0 where
  pub part_nodes : part.nodes.items ≡ nodes_of (other q) nodes
  pub part_cells : part.cells.items ≡ cells_of (other q) cells
  pub kept_nodes : left_nodes ≡ nodes_of q nodes
  pub kept_cells : left_cells ≡ cells_of q cells
  pub none : part.entries.items ≡ []

-- ---- what is judged

-- the tables of nodes and cells alone
abbrev pub rows_in : List NodeRow → List CellRow → Tables
rows_in nodes cells = record { nodes = nodes; cells = cells; audit = []; meta = [] }

-- the rows hold the tuples, which are sound, and the entries are there
pub record IsJudged (policy : Policy) (schemes : Schemes) (labels : ℕ) (t : Tables) (list : List (List ℕ))
    (c : Content) : Type 0 where
  pub tables : (rel : ℕ) → HoldsTable t rel (c.db rel)
  pub sound : IsSoundWithin policy schemes labels c
  pub audit : c.audit ≡ list
