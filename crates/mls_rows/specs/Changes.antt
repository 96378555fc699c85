-- Content, and the changes that make it.
use Rattle.std.specs.Prelude.{ℕ, List, [], ◌∷◌, ◌++◌, slice_index_or, Option}
use Rattle.std.specs.FinMap.{get, insert, remove, entries}
use Rattle.mls_scheme.specs.declared.value.Value.{Value}
use Rattle.mls_scheme.specs.declared.tuple.Element.{Element}
use Rattle.mls_scheme.specs.declared.place.Place.{Place}
use Rattle.mls_scheme.specs.Table.{Table, change}
use Rattle.mls_filterview.specs.declared.fragment.Node.{Node}
use Rattle.mls_filterview.specs.declared.fragment.Cell.{Cell}
use Rattle.mls_filterview.specs.Fragment.{place_of_node, set_in}
use Rattle.mls_filterview.specs.Assembly.{table_of, made_of}
use Rattle.mls_filterview.specs.Content.{Content, no_content, with_table}

abbrev pub with_tuple : Content → ℕ → Node → List Cell → Content
with_tuple c relation n cells =
    record c {
      db = with_table c.db relation (insert (c.db relation) (place_of_node n)
          (made_of (get (c.db relation)) n cells));
    }

abbrev pub with_value : Content → ℕ → Place → ℕ → Option Value → Content
with_value c relation p attr v = record c { db = with_table c.db relation (change (set_in p attr v) (c.db relation)) }

abbrev pub without_tuple : Content → ℕ → Place → Content
without_tuple c relation p = record c { db = with_table c.db relation (remove (c.db relation) p) }

abbrev pub with_bytes : Content → List ℕ → Content
with_bytes c bytes = record c { audit = c.audit ++ bytes ∷ [] }

abbrev pub without_entries : Content → Content
without_entries c = record c { audit = [] }

-- tuples with their places, in the order of places
abbrev pub Entries : Type 0
Entries = List (Place × List Element)

-- the table of a relation, by its number among the tables of the first relations
abbrev pub table_in : List Entries → ℕ → Table
table_in tables relation = table_of (slice_index_or tables relation [])

-- what tables and entries of the audit list make
abbrev pub found : List Entries → List (List ℕ) → Content
found tables audit = record { db = table_in tables; audit = audit }

-- a table with more tuples
abbrev pub with_entries : Table → Entries → Table
with_entries T [] = T
with_entries T (e ∷ es) = insert (with_entries T es) e.0 e.1

-- content with the tuples of more tables
abbrev pub with_tables : Content → List Entries → Content
with_tables c tables = record c { db = λ relation. with_entries (c.db relation) (entries (table_in tables relation)) }

-- what a store has when it is opened, all at once or table by table, so that content is a list of changes from
-- the first on; or a tuple more, a value in the place of another, a tuple less, an entry more, or no entry
pub data Change : Type 0 where
  Finds : (tables : List Entries) (audit : List (List ℕ)) → Change
  Joins : (tables : List Entries) → Change
  Adds : (relation : ℕ) (node : Node) (cells : List Cell) → Change
  Sets : (relation : ℕ) (place : Place) (attr : ℕ) (value : Option Value) → Change
  Drops : (relation : ℕ) (place : Place) → Change
  Appends : (bytes : List ℕ) → Change
  Clears : Change

-- the content that changes make, the last one first
abbrev pub content_of : List Change → Content
content_of [] = no_content
content_of (Finds tables audit ∷ before) = found tables audit
content_of (Joins tables ∷ before) = with_tables (content_of before) tables
content_of (Adds relation node cells ∷ before) = with_tuple (content_of before) relation node cells
content_of (Sets relation place attr value ∷ before) = with_value (content_of before) relation place attr value
content_of (Drops relation place ∷ before) = without_tuple (content_of before) relation place
content_of (Appends bytes ∷ before) = with_bytes (content_of before) bytes
content_of (Clears ∷ before) = without_entries (content_of before)
