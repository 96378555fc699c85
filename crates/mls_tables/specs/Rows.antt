-- What the rows of the four tables are, as plain data.
use Rattle.std.specs.Prelude.{ℕ, ◌+◌, ℤ, ◌+ℤ◌, pos, Bool, true, false, ◌&&◌, nat_eq, bytes_eq, List, [], ◌∷◌, ◌++◌, map}
use Rattle.std.specs.Prelude.{flat_map}
use Rattle.std.specs.Int.{bit_at, cast_signed, w64}
use Rattle.std.specs.Ordering.{int_eq}
use Rattle.sqlite_value.specs.declared.value.Value.{Value}
use Rattle.sqlite_value.specs.declared.value.Value.TheVariants.{Int, Text, Blob}
use Rattle.sqlite_value.specs.Order.{Row, column}
use Rattle.sqlite_trees.specs.Tree.{Trees, rowid}
use Rattle.sqlite_trees.specs.View.{is_int}
use Rattle.sqlite_rules.specs.Edit.{id_in}
use Rattle.mls_tables.specs.declared.rows.NodeRow.{NodeRow}
use Rattle.mls_tables.specs.declared.rows.CellRow.{CellRow}
use Rattle.mls_tables.specs.declared.rows.OwnCell.{OwnCell}
use Rattle.mls_tables.specs.declared.rows.TupleKey.{TupleKey}
use Rattle.mls_tables.specs.declared.rows.AuditRow.{AuditRow}
use Rattle.mls_tables.specs.declared.rows.MetaRow.{MetaRow}

-- the four tables, each in the order of its tree
pub record Tables : Type 0 where
  pub nodes : List NodeRow
  pub cells : List CellRow
  pub audit : List AuditRow
  pub meta : List MetaRow

abbrev pub no_rows : Tables
no_rows = record { nodes = []; cells = []; audit = []; meta = [] }

-- what is noted of a store: the rows of its last commit, and how many of its calls failed
pub record StoreNotes : Type 0 where
  pub rows : Tables
  pub failures : ℕ

abbrev pub no_notes : StoreNotes
no_notes = record { rows = no_rows; failures = 0 }

-- ---- which rows a statement is about

abbrev pub is_node_at : ℕ → ℕ → NodeRow → Bool
is_node_at rel label n = nat_eq n.rel rel && nat_eq n.label label

abbrev pub is_node : TupleKey → NodeRow → Bool
is_node k n = nat_eq n.rel k.rel && (bytes_eq n.ent k.ent && (nat_eq n.kclass k.kclass && nat_eq n.label k.label))

abbrev pub is_cell_at : ℕ → ℕ → CellRow → Bool
is_cell_at rel label c = nat_eq c.rel rel && nat_eq c.label label

-- the label is one of those whose bits are set
abbrev pub has_bit : ℕ → ℕ → Bool
has_bit labels label = nat_eq (bit_at labels label) 1

abbrev pub is_node_among : ℕ → ℕ → NodeRow → Bool
is_node_among rel labels n = nat_eq n.rel rel && has_bit labels n.label

abbrev pub is_cell_among : ℕ → ℕ → CellRow → Bool
is_cell_among rel labels c = nat_eq c.rel rel && has_bit labels c.label

-- the key of a node, which its cells have too
abbrev pub key_of : NodeRow → TupleKey
key_of n = record { rel = n.rel; ent = n.ent; kclass = n.kclass; label = n.label }

-- the cells of one tuple's own class
abbrev pub is_cell_in : TupleKey → CellRow → Bool
is_cell_in k c = nat_eq c.rel k.rel && (bytes_eq c.ent k.ent && (nat_eq c.kclass k.kclass && nat_eq c.label k.label))

abbrev pub is_cell : ℕ → List ℕ → ℕ → ℕ → ℕ → CellRow → Bool
is_cell rel ent kclass label attr c =
    nat_eq c.rel rel && (bytes_eq c.ent ent && (nat_eq c.kclass kclass && (nat_eq c.label label && nat_eq c.attr attr)))

-- the row of a cell that stands beside its tuple's node
abbrev pub cell_beside : NodeRow → OwnCell → CellRow
cell_beside n c = record {
  rel = n.rel;
  ent = n.ent;
  kclass = n.kclass;
  label = n.label;
  attr = c.attr;
  value =
      c.value;
}

-- the entries of a list, numbered from k
abbrev pub numbered : ℕ → List (List ℕ) → List AuditRow
numbered k [] = []
numbered k (b ∷ bs) = record { number = pos k; bytes = b } ∷ numbered (k + 1) bs

-- the numbers rise by one from n
abbrev pub are_numbered : ℤ → List AuditRow → Bool
are_numbered n [] = true
are_numbered n (a ∷ more) = int_eq a.number n && are_numbered (n +ℤ pos 1) more

-- the row of a new store
abbrev pub first_meta : ℕ → List ℕ → List ℕ → MetaRow
first_meta version lattice schemes = record { id = pos 1; version = pos version; lattice = lattice; schemes = schemes }

-- a new store: one row that describes it
abbrev pub described : ℕ → List ℕ → List ℕ → Tables
described version lattice schemes = record no_rows { meta = first_meta version lattice schemes ∷ [] }

-- ---- rows as SQL has them: the rowid, and then the columns

abbrev pub nat_in : Value → ℕ
nat_in (Int (pos n)) = n
nat_in _ = 0

abbrev pub blob_in : Value → List ℕ
blob_in (Blob b) = b
blob_in _ = []

abbrev pub text_in : Value → List ℕ
text_in (Text t) = t
text_in _ = []

abbrev pub is_nat : Value → Bool
is_nat (Int (pos n)) = true
is_nat _ = false

abbrev pub is_blob : Value → Bool
is_blob (Blob b) = true
is_blob _ = false

abbrev pub is_text : Value → Bool
is_text (Text t) = true
is_text _ = false

abbrev pub node_of : Row → NodeRow
node_of r =
    record {
      rel = nat_in (column r 1);
      ent = blob_in (column r 2);
      kclass = nat_in (column r 3);
      label =
          nat_in (column r 4);
      pattern = blob_in (column r 5);
    }

abbrev pub is_node_row : Row → Bool
is_node_row r =
    is_int (rowid r) && (is_nat (column r 1) && (is_blob (column r 2)
    && (is_nat (column r 3) && (is_nat (column r 4) && is_blob (column r 5)))))

abbrev pub cell_of : Row → CellRow
cell_of r =
    record {
      rel = nat_in (column r 1);
      ent = blob_in (column r 2);
      kclass = nat_in (column r 3);
      label =
          nat_in (column r 4);
      attr = nat_in (column r 5);
      value = blob_in (column r 6);
    }

abbrev pub is_cell_row : Row → Bool
is_cell_row r =
    is_int (rowid r) && (is_nat (column r 1) && (is_blob (column r 2)
    && (is_nat (column r 3) && (is_nat (column r 4) && (is_nat (column r 5) && is_blob (column r 6))))))

-- the number of an entry is its rowid
abbrev pub audit_of : Row → AuditRow
audit_of r = record { number = id_in (rowid r); bytes = blob_in (column r 2) }

abbrev pub is_audit_row : Row → Bool
is_audit_row r = is_int (rowid r) && is_blob (column r 2)

abbrev pub meta_of : Row → MetaRow
meta_of r = record {
  id = id_in (rowid r);
  version = id_in (column r 2);
  lattice = text_in (column r 3);
  schemes =
      text_in (column r 4);
}

abbrev pub is_meta_row : Row → Bool
is_meta_row r = is_int (rowid r) && (is_int (column r 2) && (is_text (column r 3) && is_text (column r 4)))

abbrev pub tables_of : Trees → Tables
tables_of trees = record {
  nodes = map node_of (trees 0);
  cells = map cell_of (trees 2);
  audit = map audit_of (trees 4);
  meta = map meta_of (trees 5);
}

-- ---- rows as queries show them

-- what a row is written as
abbrev pub node_values : NodeRow → Row
node_values n = Int (pos n.rel) ∷ Blob n.ent ∷ Int (pos n.kclass) ∷ Int (pos n.label) ∷ Blob n.pattern ∷ []

abbrev pub cell_values : CellRow → Row
cell_values c =
    Int (pos c.rel) ∷ Blob c.ent ∷ Int (pos c.kclass) ∷ Int (pos c.label) ∷ Int (pos c.attr) ∷ Blob c.value ∷ []

abbrev pub audit_values : AuditRow → Row
audit_values a = Int a.number ∷ Blob a.bytes ∷ []

-- a relation and a label, or labels by their bits
abbrev pub at_values : ℕ → ℕ → Row
at_values rel label = Int (pos rel) ∷ Int (pos label) ∷ []

abbrev pub among_values : ℕ → ℕ → Row
among_values rel labels = Int (pos rel) ∷ Int (cast_signed w64 labels) ∷ []

-- the key of a tuple's own class
abbrev pub class_values : TupleKey → Row
class_values k = Int (pos k.rel) ∷ Blob k.ent ∷ Int (pos k.kclass) ∷ Int (pos k.label) ∷ []

-- the key of a node, and the attribute and the value of each cell beside it
abbrev pub own_values : NodeRow → List OwnCell → Row
own_values n cs = class_values (key_of n) ++ flat_map (λ c. Int (pos c.attr) ∷ Blob c.value ∷ []) cs

-- every column of a row that is in a table, with the rowid last where it is not a column
abbrev pub node_columns : Row → Row
node_columns r = column r 1 ∷ column r 2 ∷ column r 3 ∷ column r 4 ∷ column r 5 ∷ column r 0 ∷ []

abbrev pub cell_columns : Row → Row
cell_columns r = column r 1 ∷ column r 2 ∷ column r 3 ∷ column r 4 ∷ column r 5 ∷ column r 6 ∷ column r 0 ∷ []

abbrev pub audit_columns : Row → Row
audit_columns r = column r 0 ∷ column r 2 ∷ []

abbrev pub meta_columns : Row → Row
meta_columns r = column r 0 ∷ column r 2 ∷ column r 3 ∷ column r 4 ∷ []

-- what a row shows, and whether it shows as much
abbrev pub shown_node : Row → NodeRow
shown_node r =
    record {
      rel = nat_in (column r 0);
      ent = blob_in (column r 1);
      kclass = nat_in (column r 2);
      label =
          nat_in (column r 3);
      pattern = blob_in (column r 4);
    }

abbrev pub shows_node : Row → Bool
shows_node r = is_nat (column r 0) && (is_blob (column r 1)
    && (is_nat (column r 2) && (is_nat (column r 3) && is_blob (column r 4))))

abbrev pub shown_cell : Row → CellRow
shown_cell r =
    record {
      rel = nat_in (column r 0);
      ent = blob_in (column r 1);
      kclass = nat_in (column r 2);
      label =
          nat_in (column r 3);
      attr = nat_in (column r 4);
      value = blob_in (column r 5);
    }

abbrev pub shows_cell : Row → Bool
shows_cell r =
    is_nat (column r 0) && (is_blob (column r 1)
    && (is_nat (column r 2) && (is_nat (column r 3) && (is_nat (column r 4) && is_blob (column r 5)))))

abbrev pub shown_entry : Row → AuditRow
shown_entry r = record { number = id_in (column r 0); bytes = blob_in (column r 1) }

abbrev pub shows_entry : Row → Bool
shows_entry r = is_int (column r 0) && is_blob (column r 1)

abbrev pub shown_meta : Row → MetaRow
shown_meta r = record {
  id = id_in (column r 0);
  version = id_in (column r 1);
  lattice = text_in (column r 2);
  schemes =
      text_in (column r 3);
}

abbrev pub shows_meta : Row → Bool
shows_meta r = is_int (column r 0) && (is_int (column r 1) && (is_text (column r 2) && is_text (column r 3)))
