-- What the texts of the statements mean over the four tables.
use Rattle.std.proofs.Common.{◌≡◌, ℕ, suc, ◌<◌, zero, ◌+◌, ◌/◌, pos, take, ◌*◌, ◌-◌, subst, arith, List, [], ◌∷◌, ◌++◌, codes, false, Ok, Err, Result, length, ◌≤◌, lit≤, refl}
use Rattle.std.specs.Prelude.{⊤}
use Rattle.sqlite.specs.Compile.{table_defined_by}
use Rattle.sqlite_tied.specs.Compute.{everything}
use Rattle.sqlite.specs.Schema.{Schema}
use Rattle.sqlite.specs.Table.{Table}
use Rattle.sqlite.specs.Term.{Term, lit, col, op2}
use Rattle.sqlite.specs.Query.{Query}
use Rattle.sqlite_sql.specs.declared.ops.BinaryOp.TheVariants.{Compare, Bits}
use Rattle.sqlite_sql.specs.declared.ops.BitOp.TheVariants as bit
use Rattle.sqlite_sql.specs.declared.ops.CompareOp.TheVariants.{Eq}
use Rattle.sqlite.specs.Collation.TheVariants.{Binary}
use Rattle.sqlite_value.specs.Keys.{ascending}
use Rattle.sqlite.specs.declared.types.Value.TheVariants.{Null, Int}
use Rattle.sqlite.specs.Source.TheVariants.{Values}
use Rattle.sqlite.specs.Command.{Command}
use Rattle.sqlite.specs.Command.TheVariants.{CreateTable, Insert, Select, Delete, Update, Begin, Commit, Rollback}
use Rattle.sqlite.specs.Listing.{understood, reads_listing}
use Rattle.sqlite.proofs.Callers.{IsPlain, command_of, statement_of}
use Rattle.sqlite_resolve.specs.declared.compiled.Compiled.{Compiled}
use Rattle.sqlite_resolve.specs.declared.error.CompileError.{CompileError}
use Rattle.mls_tables.specs.declared.statements.cell.TheConstants.{ADD_CELLS}
pub use Rattle.mls_tables.specs.Sql.{add_node, drop_node, nodes_of_class, nodes_among, nodes_of_key, set_cell, drop_cells, cells_of_class, cells_among, cells_of_tuple, add_entry, clear_entries, all_entries}
use Rattle.mls_tables.specs.Schema.{Others, no_schema, with_node, with_cell, with_audit, schema, node, cell, audit, meta}
use Rattle.mls_tables.proofs.EditParts.{alone}
use Rattle.mls_tables.proofs.QueryAnswers.{rows_by, rows_sorted}

abbrev pub IsTaken : ℕ → List ℕ → Result Compiled CompileError → Type 0
IsTaken count text (Ok c) = (length text ≤ c.tail) × (length c.names ≡ count)
IsTaken count text (Err e) = ⊥

-- the text is this command, and shows nothing and reads no time beside
abbrev pub Means : Schema → List ℕ → Command → Type 0
Means s text command = (command_of (understood s text) ≡ command) × IsPlain (understood s text)

-- the text is one statement with so many parameters
abbrev pub Takes : ℕ → Schema → List ℕ → Type 0
Takes count s text = IsTaken count text (understood s text)

-- so it is of a query, which does not read the list of tables
abbrev pub Asks : Schema → List ℕ → Command → Type 0
Asks s text command = (command_of (understood s text) ≡ command) × IsPlain (understood s text)
    × (reads_listing s text ≡ false)

-- ---- the tables

abbrev pub MakesTable : Schema → List ℕ → Table → Type 0
MakesTable s text table =
    (command_of (understood s text) ≡ CreateTable) × IsPlain (understood s text)
    × (statement_of text (understood s text) ≡ text) × (table_defined_by text ≡ Ok (record table { tree = 0 }))

abbrev pub create_node : List ℕ
create_node = codes "CREATE TABLE node (rel INTEGER NOT NULL, ent BLOB NOT NULL, kclass INTEGER NOT NULL, label INTEGER NOT NULL, pattern BLOB NOT NULL, PRIMARY KEY (rel, ent, kclass, label)) STRICT"

pub create_node_is : MakesTable no_schema create_node node
unfolding understood everything
create_node_is = (refl, (refl, refl), refl, refl)

abbrev pub create_cell : List ℕ
create_cell = codes "CREATE TABLE cell (rel INTEGER NOT NULL, ent BLOB NOT NULL, kclass INTEGER NOT NULL, label INTEGER NOT NULL, attr INTEGER NOT NULL, value BLOB NOT NULL, PRIMARY KEY (rel, ent, kclass, attr, label)) STRICT"

pub create_cell_is : MakesTable with_node create_cell cell
unfolding understood everything
create_cell_is = (refl, (refl, refl), refl, refl)

abbrev pub create_audit : List ℕ
create_audit = codes "CREATE TABLE audit (number INTEGER PRIMARY KEY NOT NULL, bytes BLOB NOT NULL) STRICT"

pub create_audit_is : MakesTable with_cell create_audit audit
unfolding understood everything
create_audit_is = (refl, (refl, refl), refl, refl)

abbrev pub create_meta : List ℕ
create_meta = codes "CREATE TABLE meta (id INTEGER PRIMARY KEY NOT NULL, version INTEGER NOT NULL, lattice TEXT NOT NULL, schemes TEXT NOT NULL) STRICT"

pub create_meta_is : MakesTable with_audit create_meta meta
unfolding understood everything
create_meta_is = (refl, (refl, refl), refl, refl)

-- ---- rows are added

abbrev pub node_terms : List Term
node_terms = lit Null ∷ col 0 0 ∷ col 0 1 ∷ col 0 2 ∷ col 0 3 ∷ col 0 4 ∷ []

pub add_node_is : (o : Others) → Means (schema o) add_node (Insert 0 (Values node_terms 6))
unfolding understood everything
add_node_is o = (refl, (refl, refl))

pub add_node_takes : (o : Others) → Takes 5 (schema o) add_node
unfolding understood everything
add_node_takes o = (lit≤ tt, refl)

abbrev pub cell_terms : List Term
cell_terms = lit Null ∷ col 0 0 ∷ col 0 1 ∷ col 0 2 ∷ col 0 3 ∷ col 0 4 ∷ col 0 5 ∷ []

abbrev pub add_cell : List ℕ
add_cell = codes "INSERT INTO cell (rel, ent, kclass, label, attr, value) VALUES (?1, ?2, ?3, ?4, ?5, ?6)"

pub add_cell_is : (o : Others) → Means (schema o) add_cell (Insert 1 (Values cell_terms 7))
unfolding understood everything
add_cell_is o = (refl, (refl, refl))

pub add_cell_takes : (o : Others) → Takes 6 (schema o) add_cell
unfolding understood everything
add_cell_takes o = (lit≤ tt, refl)

-- the same of cells beside one node: the key, and then two parameters a cell
abbrev pub own_terms : ℕ → ℕ → List Term
own_terms at zero = []
own_terms at (suc count) = lit Null ∷ col 0 0 ∷ col 0 1 ∷ col 0 2 ∷ col 0 3 ∷ col 0 at ∷ col 0 (suc at)
    ∷ own_terms (suc (suc at)) count

-- the text adds so many cells
abbrev pub AddsOwn : List ℕ → ℕ → Type 0
AddsOwn text count =
    ((o : Others) → Means (schema o) text (Insert 1 (Values (own_terms 4 count) 7))
    × Takes (4 + 2 * count) (schema o) text) × (length (own_terms 4 count) / 7 ≡ count)

-- the statement that adds so many
abbrev pub add_own : ℕ → List ℕ
add_own count = take (61 + 24 * count) ADD_CELLS.now

-- so does each, from a count on
abbrev AddEach : ℕ → ℕ → Type 0
AddEach count zero = ⊤
AddEach count (suc more) = AddsOwn (add_own count) count × AddEach (suc count) more

add_each_is : AddEach 1 15
unfolding understood everything
add_each_is = (
  ((λ o. ((refl, (refl, refl)), (lit≤ tt, refl))), refl),
  (
    ((λ o. ((refl, (refl, refl)), (lit≤ tt, refl))), refl),
    (
      ((λ o. ((refl, (refl, refl)), (lit≤ tt, refl))), refl),
      (
        ((λ o. ((refl, (refl, refl)), (lit≤ tt, refl))), refl),
        (
          ((λ o. ((refl, (refl, refl)), (lit≤ tt, refl))), refl),
          (
            ((λ o. ((refl, (refl, refl)), (lit≤ tt, refl))), refl),
            (
              ((λ o. ((refl, (refl, refl)), (lit≤ tt, refl))), refl),
              (
                ((λ o. ((refl, (refl, refl)), (lit≤ tt, refl))), refl),
                (
                  ((λ o. ((refl, (refl, refl)), (lit≤ tt, refl))), refl),
                  (
                    ((λ o. ((refl, (refl, refl)), (lit≤ tt, refl))), refl),
                    (
                      ((λ o. ((refl, (refl, refl)), (lit≤ tt, refl))), refl),
                      (
                        ((λ o. ((refl, (refl, refl)), (lit≤ tt, refl))), refl),
                        (
                          ((λ o. ((refl, (refl, refl)), (lit≤ tt, refl))), refl),
                          (
                            ((λ o. ((refl, (refl, refl)), (lit≤ tt, refl))), refl),
                            (
                              ((λ o. ((refl, (refl, refl)), (lit≤ tt, refl))), refl),
                              tt,
                            ),
                          ),
                        ),
                      ),
                    ),
                  ),
                ),
              ),
            ),
          ),
        ),
      ),
    ),
  ),
)

one_of : (count more at : ℕ) → AddEach count more → at < more → AddsOwn (add_own (count + at)) (count + at)
one_of count zero at adds within = absurd (omega (arith, within))
one_of count (suc more) zero adds within = subst (λ n. AddsOwn (add_own n) n) (omega arith) adds.0
one_of count (suc more) (suc at) adds within = subst (λ n. AddsOwn (add_own n) n) (omega arith)
    (one_of (suc count) more at adds.1 (omega (arith, within)))

pub add_own_is : (count : ℕ) → 0 < count → count ≤ 15 → AddsOwn (add_own count) count
add_own_is count some few =
    let first : 1 + (count - 1) ≡ count = omega (arith, some) in
    subst (λ n. AddsOwn (add_own n) n) first (one_of 1 15 (count - 1) add_each_is (omega (arith, some, few)))

abbrev pub audit_terms : List Term
audit_terms = col 0 0 ∷ lit Null ∷ col 0 1 ∷ []

pub add_entry_is : (o : Others) → Means (schema o) add_entry (Insert 2 (Values audit_terms 3))
unfolding understood everything
add_entry_is o = (refl, (refl, refl))

pub add_entry_takes : (o : Others) → Takes 2 (schema o) add_entry
unfolding understood everything
add_entry_takes o = (lit≤ tt, refl)

abbrev pub meta_terms : List Term
meta_terms = lit (Int (pos 1)) ∷ lit Null ∷ col 0 0 ∷ col 0 1 ∷ col 0 2 ∷ []

abbrev pub add_meta : List ℕ
add_meta = codes "INSERT INTO meta (id, version, lattice, schemes) VALUES (1, ?1, ?2, ?3)"

pub add_meta_is : (o : Others) → Means (schema o) add_meta (Insert 3 (Values meta_terms 5))
unfolding understood everything
add_meta_is o = (refl, (refl, refl))

pub add_meta_takes : (o : Others) → Takes 3 (schema o) add_meta
unfolding understood everything
add_meta_takes o = (lit≤ tt, refl)

-- ---- rows are dropped and set

abbrev pub same : ℕ → ℕ → Term
same column param = op2 (Compare Eq Binary) (col 1 column) (col 0 param)

-- a relation, an entity, its class and a label, as both tables have them
abbrev pub by_class : List Term
by_class = same 1 0 ∷ same 2 1 ∷ same 3 2 ∷ same 4 3 ∷ []

pub drop_node_is : (o : Others) → Means (schema o) drop_node (Delete 0 (alone (rows_by 0 by_class (col 1 0 ∷ []))))
unfolding understood everything
drop_node_is o = (refl, (refl, refl))

pub drop_node_takes : (o : Others) → Takes 4 (schema o) drop_node
unfolding understood everything
drop_node_takes o = (lit≤ tt, refl)

pub drop_cells_is : (o : Others) → Means (schema o) drop_cells (Delete 1 (alone (rows_by 2 by_class (col 1 0 ∷ []))))
unfolding understood everything
drop_cells_is o = (refl, (refl, refl))

pub drop_cells_takes : (o : Others) → Takes 4 (schema o) drop_cells
unfolding understood everything
drop_cells_takes o = (lit≤ tt, refl)

abbrev pub by_cell : List Term
by_cell = same 1 0 ∷ same 2 1 ∷ same 3 2 ∷ same 4 3 ∷ same 5 4 ∷ []

-- the row's place, and then the row as it will be
abbrev pub set_terms : List Term
set_terms = col 1 0 ∷ col 1 0 ∷ col 1 1 ∷ col 1 2 ∷ col 1 3 ∷ col 1 4 ∷ col 1 5 ∷ col 0 5 ∷ []

pub set_cell_is : (o : Others) → Means (schema o) set_cell (Update 1 (alone (rows_by 2 by_cell set_terms)))
unfolding understood everything
set_cell_is o = (refl, (refl, refl))

pub set_cell_takes : (o : Others) → Takes 6 (schema o) set_cell
unfolding understood everything
set_cell_takes o = (lit≤ tt, refl)

-- ---- tables are cleared

-- every row of a tree, as the statement finds it
abbrev pub every : ℕ → Query
every tree = rows_by tree [] (col 1 0 ∷ [])

abbrev pub clear_nodes : List ℕ
clear_nodes = codes "DELETE FROM node"

pub clear_nodes_is : (o : Others) → Means (schema o) clear_nodes (Delete 0 (alone (every 0)))
unfolding understood everything
clear_nodes_is o = (refl, (refl, refl))

pub clear_nodes_takes : (o : Others) → Takes 0 (schema o) clear_nodes
unfolding understood everything
clear_nodes_takes o = (lit≤ tt, refl)

abbrev pub clear_cells : List ℕ
clear_cells = codes "DELETE FROM cell"

pub clear_cells_is : (o : Others) → Means (schema o) clear_cells (Delete 1 (alone (every 2)))
unfolding understood everything
clear_cells_is o = (refl, (refl, refl))

pub clear_cells_takes : (o : Others) → Takes 0 (schema o) clear_cells
unfolding understood everything
clear_cells_takes o = (lit≤ tt, refl)

pub clear_entries_is : (o : Others) → Means (schema o) clear_entries (Delete 2 (alone (every 4)))
unfolding understood everything
clear_entries_is o = (refl, (refl, refl))

pub clear_entries_takes : (o : Others) → Takes 0 (schema o) clear_entries
unfolding understood everything
clear_entries_takes o = (lit≤ tt, refl)

abbrev pub clear_meta : List ℕ
clear_meta = codes "DELETE FROM meta"

pub clear_meta_is : (o : Others) → Means (schema o) clear_meta (Delete 3 (alone (every 5)))
unfolding understood everything
clear_meta_is o = (refl, (refl, refl))

pub clear_meta_takes : (o : Others) → Takes 0 (schema o) clear_meta
unfolding understood everything
clear_meta_takes o = (lit≤ tt, refl)

-- ---- rows are shown

abbrev pub node_names : List (List ℕ)
node_names = codes "rel" ∷ codes "ent" ∷ codes "kclass" ∷ codes "label" ∷ codes "pattern" ∷ []

abbrev pub node_shown : List Term
node_shown = col 1 1 ∷ col 1 2 ∷ col 1 3 ∷ col 1 4 ∷ col 1 5 ∷ []

abbrev pub by_label : List Term
by_label = same 1 0 ∷ same 4 1 ∷ []

-- the bit of the label is set in the parameter
abbrev pub by_labels : List Term
by_labels = same 1 0 ∷ op2 (Bits bit.And) (col 0 1) (op2 (Bits bit.Shl) (lit (Int (pos 1))) (col 1 4)) ∷ []

pub nodes_of_class_is : (o : Others) → Asks (schema o) nodes_of_class
    (Select (alone (rows_by 0 by_label node_shown)) node_names)
unfolding understood everything
nodes_of_class_is o = (refl, (refl, refl), refl)

pub nodes_of_class_takes : (o : Others) → Takes 2 (schema o) nodes_of_class
unfolding understood everything
nodes_of_class_takes o = (lit≤ tt, refl)

pub nodes_among_is : (o : Others) → Asks (schema o) nodes_among
    (Select (alone (rows_by 0 by_labels node_shown)) node_names)
unfolding understood everything
nodes_among_is o = (refl, (refl, refl), refl)

pub nodes_among_takes : (o : Others) → Takes 2 (schema o) nodes_among
unfolding understood everything
nodes_among_takes o = (lit≤ tt, refl)

pub nodes_of_key_is : (o : Others) → Asks (schema o) nodes_of_key
    (Select (alone (rows_by 0 by_class node_shown)) node_names)
unfolding understood everything
nodes_of_key_is o = (refl, (refl, refl), refl)

pub nodes_of_key_takes : (o : Others) → Takes 4 (schema o) nodes_of_key
unfolding understood everything
nodes_of_key_takes o = (lit≤ tt, refl)

abbrev pub cell_names : List (List ℕ)
cell_names = codes "rel" ∷ codes "ent" ∷ codes "kclass" ∷ codes "label" ∷ codes "attr" ∷ codes "value" ∷ []

abbrev pub cell_shown : List Term
cell_shown = col 1 1 ∷ col 1 2 ∷ col 1 3 ∷ col 1 4 ∷ col 1 5 ∷ col 1 6 ∷ []

pub cells_of_class_is : (o : Others) → Asks (schema o) cells_of_class
    (Select (alone (rows_by 2 by_label cell_shown)) cell_names)
unfolding understood everything
cells_of_class_is o = (refl, (refl, refl), refl)

pub cells_of_class_takes : (o : Others) → Takes 2 (schema o) cells_of_class
unfolding understood everything
cells_of_class_takes o = (lit≤ tt, refl)

pub cells_among_is : (o : Others) → Asks (schema o) cells_among
    (Select (alone (rows_by 2 by_labels cell_shown)) cell_names)
unfolding understood everything
cells_among_is o = (refl, (refl, refl), refl)

pub cells_among_takes : (o : Others) → Takes 2 (schema o) cells_among
unfolding understood everything
cells_among_takes o = (lit≤ tt, refl)

pub cells_of_tuple_is : (o : Others) → Asks (schema o) cells_of_tuple
    (Select (alone (rows_by 2 by_class cell_shown)) cell_names)
unfolding understood everything
cells_of_tuple_is o = (refl, (refl, refl), refl)

pub cells_of_tuple_takes : (o : Others) → Takes 4 (schema o) cells_of_tuple
unfolding understood everything
cells_of_tuple_takes o = (lit≤ tt, refl)

abbrev pub audit_names : List (List ℕ)
audit_names = codes "number" ∷ codes "bytes" ∷ []

abbrev pub audit_shown : List Term
audit_shown = col 1 0 ∷ col 1 2 ∷ []

abbrev pub meta_names : List (List ℕ)
meta_names = codes "id" ∷ codes "version" ∷ codes "lattice" ∷ codes "schemes" ∷ []

abbrev pub all_nodes : List ℕ
all_nodes = codes "SELECT rel, ent, kclass, label, pattern, rowid FROM node ORDER BY rowid"

pub all_nodes_is : (o : Others) → Asks (schema o) all_nodes
    (Select (alone (rows_sorted 0 [] (node_shown ++ col 1 0 ∷ []) ((col 1 0, ascending Binary) ∷ [])))
    (node_names ++ codes "rowid" ∷ []))
unfolding understood everything
all_nodes_is o = (refl, (refl, refl), refl)

abbrev pub all_cells : List ℕ
all_cells = codes "SELECT rel, ent, kclass, label, attr, value, rowid FROM cell ORDER BY rowid"

pub all_cells_is : (o : Others) → Asks (schema o) all_cells
    (Select (alone (rows_sorted 2 [] (cell_shown ++ col 1 0 ∷ []) ((col 1 0, ascending Binary) ∷ [])))
    (cell_names ++ codes "rowid" ∷ []))
unfolding understood everything
all_cells_is o = (refl, (refl, refl), refl)

pub all_entries_is : (o : Others) → Asks (schema o) all_entries
    (Select (alone (rows_sorted 4 [] audit_shown ((col 1 0, ascending Binary) ∷ []))) audit_names)
unfolding understood everything
all_entries_is o = (refl, (refl, refl), refl)

pub all_entries_takes : (o : Others) → Takes 0 (schema o) all_entries
unfolding understood everything
all_entries_takes o = (lit≤ tt, refl)

abbrev pub all_meta : List ℕ
all_meta = codes "SELECT id, version, lattice, schemes FROM meta"

pub all_meta_is : (o : Others) → Asks (schema o) all_meta
    (Select (alone (rows_by 5 [] (col 1 0 ∷ col 1 2 ∷ col 1 3 ∷ col 1 4 ∷ []))) meta_names)
unfolding understood everything
all_meta_is o = (refl, (refl, refl), refl)

-- ---- changes begin and end, whatever the schema

pub begin_is : (s : Schema) → Means s (codes "BEGIN") Begin
unfolding understood everything
begin_is s = (refl, (refl, refl))

pub commit_is : (s : Schema) → Means s (codes "COMMIT") Commit
unfolding understood everything
commit_is s = (refl, (refl, refl))

pub rollback_is : (s : Schema) → Means s (codes "ROLLBACK") Rollback
unfolding understood everything
rollback_is s = (refl, (refl, refl))

-- the text is one statement, has no parameter and does not read the time
abbrev pub IsWhole : List ℕ → Result Compiled CompileError → Type 0
IsWhole text (Ok c) = (length text ≤ c.tail) × (c.names ≡ []) × (c.formats ≡ [])
IsWhole text (Err e) = ⊥

pub rollback_whole : (s : Schema) → IsWhole (codes "ROLLBACK") (understood s (codes "ROLLBACK"))
unfolding understood everything
rollback_whole s = (lit≤ tt, refl, refl)

pub begin_whole : (s : Schema) → IsWhole (codes "BEGIN") (understood s (codes "BEGIN"))
unfolding understood everything
begin_whole s = (lit≤ tt, refl, refl)

pub commit_whole : (s : Schema) → IsWhole (codes "COMMIT") (understood s (codes "COMMIT"))
unfolding understood everything
commit_whole s = (lit≤ tt, refl, refl)
