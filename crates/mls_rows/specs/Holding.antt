-- The rows that content has: each tuple is a node, and each element is kept once, with the tuple of its class.
use Rattle.std.specs.Prelude.{◌≡◌, ℕ, ◌<◌, not, nat_eq, List, [], ◌∷◌, ◌++◌, map, length, Option, None, Some, IfSome}
use Rattle.std.specs.Prelude.{IsPermutation, filter, flat_map}
use Rattle.std.specs.FinMap.{get, entries}
use Rattle.mls_scheme.specs.declared.value.Value.{Value}
use Rattle.mls_scheme.specs.declared.tuple.Element.{Element}
use Rattle.mls_scheme.specs.declared.place.Place.{Place}
use Rattle.mls_scheme.specs.Spelling.{key_spelling, value_spelling, HasSpelling, IsSpelledKey}
use Rattle.mls_scheme.specs.Tuple.{at}
use Rattle.mls_scheme.specs.Table.{Table}
use Rattle.mls_filterview.specs.declared.fragment.Node.{Node}
use Rattle.mls_filterview.specs.declared.fragment.Cell.{Cell}
use Rattle.mls_filterview.specs.Stored.{with_class}
use Rattle.mls_filterview.specs.Fragment.{node_of, cells_of, cell_at}
use Rattle.mls_filterview.specs.Content.{Content}
use Rattle.mls_tables.specs.declared.rows.NodeRow.{NodeRow}
use Rattle.mls_tables.specs.declared.rows.CellRow.{CellRow}
use Rattle.mls_tables.specs.declared.rows.OwnCell.{OwnCell}
use Rattle.mls_tables.specs.declared.rows.TupleKey.{TupleKey}
use Rattle.mls_tables.specs.Rows.{Tables, numbered, is_node, is_cell_in}

-- a value's bytes, and 0 for null
abbrev pub value_bytes : Option Value → List ℕ
value_bytes None = 0 ∷ []
value_bytes (Some v) = value_spelling v

abbrev pub node_row : ℕ → Node → NodeRow
node_row relation n =
    record { rel = relation; ent = key_spelling n.key; kclass = n.key_class; label = n.label; pattern = n.pattern }

abbrev pub cell_row : ℕ → Cell → CellRow
cell_row relation c =
    record {
      rel = relation;
      ent = key_spelling c.key;
      kclass = c.key_class;
      label = c.label;
      attr = c.attr;
      value =
          value_bytes c.value;
    }

-- the key of the tuple at a place
abbrev pub tuple_key : ℕ → Place → TupleKey
tuple_key relation p = record { rel = relation; ent = key_spelling p.key; kclass = p.key_class; label = p.class }

-- a cell of a tuple's own class, beside the tuple's node
abbrev pub own_cell : Cell → OwnCell
own_cell c = record { attr = c.attr; value = value_bytes c.value }

abbrev pub nodes_in : Table → List Node
nodes_in T = map node_of (entries T)

abbrev pub cells_in : Table → List Cell
cells_in T = flat_map cells_of (entries T)

-- a tuple whose key and values have spellings, and each element of which the entity's tuple of its class has
pub record IsSharedTuple (T : Table) (p : Place) (es : List Element) : Type 0 where
  pub key : IsSpelledKey p.key
  pub values : (i : ℕ) → i < length es → IfSome (at es i).value HasSpelling
  pub own : (i : ℕ) → i < length es → (fs : List Element) × (get T (with_class p (at es i).class) ≡ Some fs)
      × (i < length fs) × (at fs i ≡ at es i)

-- the rows of a relation are those of its table, in any order
pub record HoldsTable (t : Tables) (relation : ℕ) (T : Table) : Type 0 where
  pub nodes : IsPermutation (map (node_row relation) (nodes_in T)) (filter (λ n. nat_eq n.rel relation) t.nodes)
  pub cells : IsPermutation (map (cell_row relation) (cells_in T)) (filter (λ c. nat_eq c.rel relation) t.cells)
  pub shared : (p : Place) (es : List Element) → get T p ≡ Some es → IsSharedTuple T p es

-- The rows are those of the content, in any order. A base that kept content beside its store, and never wrote
-- it, would break this.
pub record Holds (t : Tables) (c : Content) : Type 0 where
  pub tables : (relation : ℕ) → HoldsTable t relation (c.db relation)
  pub audit : IsPermutation (numbered 1 c.audit) t.audit

abbrev pub IsSpelledNode : Node → Type 0
IsSpelledNode n = IsSpelledKey n.key

abbrev pub IsSpelledCell : Cell → Type 0
IsSpelledCell c = IsSpelledKey c.key × IfSome c.value HasSpelling

-- ---- what becomes of the rows

-- the row of a value at an attribute, of the entity and the class of a place
abbrev pub value_row : ℕ → Place → ℕ → Option Value → CellRow
value_row relation p attr v = cell_row relation (cell_at p attr (record { value = v; class = p.class }))

-- a tuple's node and the elements of its class
pub record AddsTuple (n : NodeRow) (own : List CellRow) (old new : Tables) : Type 0 where
  pub nodes : IsPermutation (n ∷ old.nodes) new.nodes
  pub cells : IsPermutation (own ++ old.cells) new.cells
  pub rest : new ≡ record old { nodes = new.nodes; cells = new.cells }

-- the node of a place and the elements of its class
abbrev pub DropsTuple : ℕ → Place → Tables → Tables → Type 0
DropsTuple relation p old new = new ≡ record old {
  nodes = filter (λ n. not (is_node (tuple_key relation p) n)) old.nodes;
  cells = filter (λ c. not (is_cell_in (tuple_key relation p) c)) old.cells;
}
