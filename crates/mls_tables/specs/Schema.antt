-- The four tables, as SQL defines them.
use Rattle.std.specs.Prelude.{◌≡◌, ◌==◌, nat_lt, Bool, true, false, [], ◌∷◌, length, take, drop, Some, None, codes}
use Rattle.std.specs.Prelude.{List, ℕ}
use Rattle.std.specs.List.{AllByRecursion, list_all}
use Rattle.sqlite.specs.declared.types.Value.TheVariants.{Null}
use Rattle.sqlite.specs.Collation.TheVariants.{Binary}
use Rattle.sqlite.specs.Table.{Table}
use Rattle.sqlite.specs.Schema.{Schema}
use Rattle.sqlite.specs.Kind.{Kind}
use Rattle.sqlite.specs.Kind.TheVariants.{Integer, Text, Blob}
use Rattle.sqlite_schema.specs.declared.schema.Column.{Column}
use Rattle.sqlite_schema.specs.declared.schema.Index.{Index}
use Rattle.sqlite_value.specs.Keys.{plain}
use Rattle.sqlite.specs.Change.{created}
use Rattle.sqlite.specs.Effect.{Database}

abbrev pub needed : List ℕ → Kind → Column
needed name kind = record {
  name = name;
  kind = kind;
  is_strict = true;
  not_null = true;
  default = Null;
  collation =
      Binary;
}

-- nothing is tested, computed or counted beside the keys
abbrev pub HasNoRules : Table → Type 0
HasNoRules t =
    (t.checks ≡ []) × ((t.references ≡ []) × ((t.computed ≡ [])
    × ((t.stamps ≡ record { places = []; terms = []; formats = [] }) × (t.is_counted ≡ false))))

-- the first column is the rowid, and the only key
abbrev pub IsByRowid : Table → Type 0
IsByRowid t = (t.key ≡ Some 0) × ((t.primary ≡ 0 ∷ []) × ((t.uniques ≡ []) × (t.orders ≡ [])))

-- the columns at these places are the only key, which has an index
abbrev pub IsByIndex : List ℕ → Table → Type 0
IsByIndex places t = (t.key ≡ None) × ((t.primary ≡ places) × ((t.uniques ≡ places ∷ []) × (t.orders ≡ plain ∷ [])))

abbrev pub by_rowid : List ℕ → ℕ → List Column → Table
by_rowid name tree columns = record {
  name = name;
  tree = tree;
  columns = columns;
  key = Some 0;
  primary = 0 ∷ [];
  uniques = [];
  orders = [];
  checks = [];
  references = [];
  computed = [];
  stamps = record { places = []; terms = []; formats = [] };
  is_counted = false;
}

abbrev pub by_index : List ℕ → ℕ → List Column → List ℕ → Table
by_index name tree columns places = record (by_rowid name tree columns) {
  key = None;
  primary = places;
  uniques = places
      ∷ [];
  orders = plain ∷ [];
}

-- the index that SQLite makes for a primary key
abbrev pub key_index : List ℕ → ℕ → ℕ → List ℕ → Index
key_index name tree table places = record {
  name = name;
  tree = tree;
  table = table;
  columns = places;
  order = plain;
  is_unique = true;
}

abbrev pub node : Table
node =
    by_index (codes "node") 0
    (needed (codes "rel") Integer ∷ needed (codes "ent") Blob ∷ needed (codes "kclass") Integer
    ∷ needed (codes "label") Integer ∷ needed (codes "pattern") Blob ∷ [])
    (1 ∷ 2 ∷ 3 ∷ 4 ∷ [])

abbrev pub cell : Table
cell =
    by_index (codes "cell") 2
    (needed (codes "rel") Integer ∷ needed (codes "ent") Blob ∷ needed (codes "kclass") Integer
    ∷ needed (codes "label") Integer ∷ needed (codes "attr") Integer ∷ needed (codes "value") Blob ∷ [])
    (1 ∷ 2 ∷ 3 ∷ 5 ∷ 4 ∷ [])

abbrev pub audit : Table
audit = by_rowid (codes "audit") 4 (needed (codes "number") Integer ∷ needed (codes "bytes") Blob ∷ [])

abbrev pub meta : Table
meta = by_rowid (codes "meta") 5 (needed (codes "id") Integer ∷ needed (codes "version") Integer
    ∷ needed (codes "lattice") Text ∷ needed (codes "schemes") Text ∷ [])

abbrev pub no_schema : Schema
no_schema = record { tables = []; indexes = []; views = [] }

-- the schemas as the tables are made, one by one
abbrev pub with_node : Schema
with_node = created no_schema node

abbrev pub with_cell : Schema
with_cell = created with_node cell

abbrev pub with_audit : Schema
with_audit = created with_cell audit

-- the tables and indexes that a store has behind ours
pub record Others : Type 0 where
  pub tables : List Table
  pub indexes : List Index

abbrev pub no_others : Others
no_others = record { tables = []; indexes = [] }

-- the whole schema: the four tables with their indexes, and then others
abbrev pub schema : Others → Schema
schema others = record {
  tables = node ∷ cell ∷ audit ∷ meta ∷ others.tables;
  indexes = key_index (codes "sqlite_autoindex_node_1") 1 0 (1 ∷ 2 ∷ 3 ∷ 4 ∷ [])
      ∷ key_index (codes "sqlite_autoindex_cell_1") 3 2 (1 ∷ 2 ∷ 3 ∷ 5 ∷ 4 ∷ []) ∷ others.indexes;
  views = [];
}

abbrev pub has_no_reference : Table → Bool
has_no_reference t = length t.references == 0

abbrev pub is_on_others : Index → Bool
is_on_others i = nat_lt 5 i.table

-- none of the others has a foreign key, and none is an index on ours
pub record AreApart (others : Others) : Type 0 where
  pub tables : list_all has_no_reference others.tables ≡ true
  pub indexes : list_all is_on_others others.indexes ≡ true

-- the four tables come first, and no other object is on them
pub record HasTables (s : Schema) : Type 0 where
  pub others : Others
  pub apart : AreApart others
  pub is : s ≡ schema others

-- the same, by its parts
abbrev pub BeginsWithTables : Schema → Type 0
BeginsWithTables s =
    (s.views ≡ []) × ((take 2 s.indexes ≡ (schema no_others).indexes)
    × ((list_all is_on_others (drop 2 s.indexes) ≡ true)
    × ((take 4 s.tables ≡ (schema no_others).tables) × (list_all has_no_reference (drop 4 s.tables) ≡ true))))

-- the database has the tables of a schema, without a row
abbrev pub IsMade : Schema → Database → Type 0
IsMade s db = (db.schema ≡ s) × AllByRecursion (λ t. db.trees t.tree ≡ []) s.tables
