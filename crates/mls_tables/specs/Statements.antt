-- What the statements do to the four tables.
use Rattle.std.specs.Prelude.{◌≡◌, ◌≢◌, ◌⊎◌, ℕ, ◌<◌, ◌^◌, Bool, true, false, not, if◌then◌else◌, List, [], ◌∷◌}
use Rattle.std.specs.Prelude.{◌++◌, filter, map, length, IsTrue}
use Rattle.std.specs.Prelude.{IsPermutation, Option, Some, None, Result, Ok, Err, Vec, IfOk, IfErr, OnOk, OnErr}
use Rattle.std.specs.List.{AllByRecursion}
use Rattle.std.specs.Ordering.{is_eq}
use Rattle.std.specs.declared.alloc.Global.{Global}
use Rattle.sqlite_value.specs.Order.{Row, value_cmp}
use Rattle.sqlite_trees.specs.Tree.{Trees, rowid, IsAscending}
use Rattle.sqlite_disk.specs.Disk.{MoreFaults}
use Rattle.sqlite.specs.Effect.{Database, RefusesToRead}
use Rattle.sqlite.specs.Clock.{timed}
use Rattle.sqlite.specs.Does.{Tally, Does}
use Rattle.sqlite.specs.Listing.{understood, reads_listing, IsSourceOf}
use Rattle.sqlite.specs.declared.run.Mode.{Mode}
use Rattle.sqlite_resolve.specs.declared.compiled.Compiled.{Compiled}
use Rattle.sqlite_schema.specs.declared.schema.Keys.TheVariants.{Enforced}
use Rattle.sqlite.specs.Schema.{Schema}
use Rattle.sqlite.specs.State.{State, IsUnchanged, IsRolledBack, HasCleanDisk, KeepsCommit, FailsToQuery, text_of}
use Rattle.sqlite.specs.declared.error.Error.{Error}
use Rattle.sqlite.specs.declared.error.Error.TheVariants.{SqliteFailure}
use Rattle.sqlite.specs.declared.error.ErrorCode.TheVariants as code
use Rattle.mls_tables.specs.declared.rows.NodeRow.{NodeRow}
use Rattle.mls_tables.specs.declared.rows.CellRow.{CellRow}
use Rattle.mls_tables.specs.declared.rows.OwnCell.{OwnCell}
use Rattle.mls_tables.specs.declared.rows.AuditRow.{AuditRow}
use Rattle.mls_tables.specs.declared.rows.MetaRow.{MetaRow}
use Rattle.mls_tables.specs.declared.rows.TupleKey.{TupleKey}
use Rattle.mls_tables.specs.Rows.{Tables, tables_of, described, first_meta, is_node, is_cell, is_cell_in, is_node_row}
use Rattle.mls_tables.specs.Rows.{is_cell_row, is_audit_row, is_meta_row, own_values}
use Rattle.mls_tables.specs.Sql.{add_cells}
use Rattle.mls_tables.specs.Schema.{HasTables, IsMade}

-- no two rows have one rowid
abbrev pub IsApart : List Row → Type 0
IsApart = IsAscending (λ a b. is_eq (value_cmp (rowid a) (rowid b)) ≡ false)

-- rows of different rowids, each of the table's form
abbrev pub AreRows : (Row → Bool) → List Row → Type 0
AreRows is_row rows = IsApart rows × AllByRecursion (λ r. is_row r ≡ true) rows

-- the database has the four tables, and their rows are what they should be
abbrev pub IsSchemaReady : Database → Type 0
IsSchemaReady db =
    HasTables db.schema
    × (AreRows is_node_row (db.trees 0) × (AreRows is_cell_row (db.trees 2) × (AreRows is_audit_row (db.trees 4)
    × AreRows is_meta_row (db.trees 5))))

-- ---- what becomes of the rows

abbrev pub AddsNode : NodeRow → Tables → Tables → Type 0
AddsNode n old new = (new ≡ record old { nodes = new.nodes }) × IsPermutation (n ∷ old.nodes) new.nodes

abbrev pub DropsNode : TupleKey → Tables → Tables → Type 0
DropsNode k old new = new ≡ record old { nodes = filter (λ n. not (is_node k n)) old.nodes }

abbrev pub AddsCell : CellRow → Tables → Tables → Type 0
AddsCell c old new = (new ≡ record old { cells = new.cells }) × IsPermutation (c ∷ old.cells) new.cells

abbrev pub has_key_of : CellRow → CellRow → Bool
has_key_of c = is_cell c.rel c.ent c.kclass c.label c.attr

-- the cell stands in the place of the one with its key
abbrev pub SetsCell : CellRow → Tables → Tables → Type 0
SetsCell c old new = (new ≡ record old { cells = new.cells })
    × IsPermutation (c ∷ filter (λ d. not (has_key_of c d)) old.cells) new.cells

abbrev pub DropsCells : TupleKey → Tables → Tables → Type 0
DropsCells k old new = new ≡ record old { cells = filter (λ c. not (is_cell_in k c)) old.cells }

abbrev pub AddsEntry : AuditRow → Tables → Tables → Type 0
AddsEntry a old new = (new ≡ record old { audit = new.audit }) × IsPermutation (a ∷ old.audit) new.audit

abbrev pub AddsMeta : MetaRow → Tables → Tables → Type 0
AddsMeta m old new = (new ≡ record old { meta = new.meta }) × IsPermutation (m ∷ old.meta) new.meta

abbrev pub AddsNodes : List NodeRow → Tables → Tables → Type 0
AddsNodes ns old new = (new ≡ record old { nodes = new.nodes }) × IsPermutation (ns ++ old.nodes) new.nodes

abbrev pub AddsCells : List CellRow → Tables → Tables → Type 0
AddsCells cs old new = (new ≡ record old { cells = new.cells }) × IsPermutation (cs ++ old.cells) new.cells

-- ---- tables are cleared

abbrev pub ClearsNodes : Tables → Tables → Type 0
ClearsNodes old new = new ≡ record old { nodes = [] }

abbrev pub ClearsCells : Tables → Tables → Type 0
ClearsCells old new = new ≡ record old { cells = [] }

abbrev pub ClearsMeta : Tables → Tables → Type 0
ClearsMeta old new = new ≡ record old { meta = [] }

abbrev pub ClearsEntries : Tables → Tables → Type 0
ClearsEntries old new = new ≡ record old { audit = [] }

-- the entries alone stay
abbrev pub ClearsStore : Tables → Tables → Type 0
ClearsStore old new = new ≡ record old { nodes = []; cells = []; meta = [] }

-- the nodes and the cells are these, in any order, one row describes the store, and the entries stay
pub record Rewrites (nodes : List NodeRow) (cells : List CellRow) (version : ℕ) (lattice schemes : List ℕ)
    (old new : Tables) : Type 0 where
  pub nodes_are : IsPermutation nodes new.nodes
  pub cells_are : IsPermutation cells new.cells
  pub audit : new.audit ≡ old.audit
  pub meta : new.meta ≡ first_meta version lattice schemes ∷ []

-- ---- what becomes of the connection

-- the change goes on, or was made and committed at once
pub record IsNext (old new : State) : Type 0 where
  pub was_open : IsTrue old.is_open
  pub is_open : IsTrue new.is_open
  pub mode : new.in_transaction ≡ old.in_transaction
  pub committed : new.committed ≡ (if old.in_transaction then old.committed else new.now)

-- a statement that is done on the four tables
pub record Changes (Rows : Tables → Tables → Type 0) (old new : State) : Type 0 where
  pub ready : IsSchemaReady new.now
  pub rows : Rows (tables_of old.now.trees) (tables_of new.now.trees)
  pub next : IsNext old new

-- a transaction is begun, and nothing else
pub record Begins (old new : State) : Type 0 where
  pub was : old.in_transaction ≡ false
  pub was_open : IsTrue old.is_open
  pub is_open : IsTrue new.is_open
  pub now : new.now ≡ old.now
  pub committed : new.committed ≡ old.committed
  pub mode : new.in_transaction ≡ true

-- a change of the four tables is begun
pub record IsWithin (s : State) : Type 0 where
  pub is_open : IsTrue s.is_open
  pub mode : s.in_transaction ≡ true
  pub ready : IsSchemaReady s.now

-- statements that are done in a change, which goes on
pub record GoesOn (Rows : Tables → Tables → Type 0) (old new : State) : Type 0 where
  pub within : IsWithin new
  pub rows : Rows (tables_of old.now.trees) (tables_of new.now.trees)
  pub committed : new.committed ≡ old.committed

-- an open connection shows the four tables, and has committed them
pub record HasSettled (s : State) : Type 0 where
  pub is_open : IsTrue s.is_open
  pub mode : s.in_transaction ≡ false
  pub ready : IsSchemaReady s.now
  pub settled : s.now ≡ s.committed

-- a store that was made, and is committed
pub record IsNewStore (version : ℕ) (lattice schemes : List ℕ) (s : State) : Type 0 where
  pub settled : HasSettled s
  pub rows : tables_of s.now.trees ≡ described version lattice schemes

-- a store that was rewritten, and is committed
pub record IsRewritten (nodes : List NodeRow) (cells : List CellRow) (version : ℕ) (lattice schemes : List ℕ)
    (old new : State) : Type 0 where
  pub settled : HasSettled new
  pub rows : Rewrites nodes cells version lattice schemes (tables_of old.now.trees) (tables_of new.now.trees)

-- nothing was done, or the transaction was undone
abbrev pub IsEnded : State → State → Type 0
IsEnded old new = IsUnchanged old new ⊎ IsRolledBack old new

-- The statement was understood and run: the store failed; or the database refused these rows, since they break a rule
-- of their
-- table, are of other kinds than it takes, or go past a limit.
abbrev pub is_of_run : Error → Bool
is_of_run (SqliteFailure code.OutOfMemory) = true
is_of_run (SqliteFailure code.SystemIoFailure) = true
is_of_run (SqliteFailure code.DatabaseCorrupt) = true
is_of_run (SqliteFailure code.DiskFull) = true
is_of_run (SqliteFailure code.Closed) = true
is_of_run (SqliteFailure code.TooBig) = true
is_of_run (SqliteFailure (code.ConstraintViolation rule)) = true
is_of_run (SqliteFailure code.ForeignKeyMismatch) = true
is_of_run (SqliteFailure code.TooDeep) = true
is_of_run (SqliteFailure code.NoRowid) = true
is_of_run (SqliteFailure code.TypeMismatch) = true
is_of_run (SqliteFailure code.IntegerOverflow) = true
is_of_run (SqliteFailure code.OperationInterrupted) = true
is_of_run _ = false

abbrev pub IsOfRun : Error → Type 0
IsOfRun e = is_of_run e ≡ true

-- foreign keys hold at once
abbrev pub enforced : Mode
enforced = record { keys = Enforced; in_doubt = false; may_wait = false }

-- The database refuses a statement that it understands, with these parameters: no row that is written can be stored; or
-- it
-- breaks a rule, is of another kind or goes past a limit; or so does what is read.
pub data IsRefusal (sql : List ℕ) (c : Compiled) (params : Row) (limit : Option ℕ) (db : Database) : Type 0 where
  unstorable : Does limit enforced params db (text_of sql c) c.returning c.command (Err None)
      → IsRefusal sql c params limit db
  refused : (e : Error) → IsOfRun e → Does limit enforced params db (text_of sql c) c.returning c.command (Err (Some e))
      → IsRefusal sql c params limit db
  unread : (e : Error) → IsOfRun e → (from : Database) → IsSourceOf (reads_listing db.schema sql) db from
      → RefusesToRead limit c.command from params e → IsRefusal sql c params limit db

abbrev pub Refuses : List ℕ → Row → Option ℕ → Database → Type 0
Refuses sql params limit db =
    (c : Compiled) × (understood db.schema sql ≡ Ok c) × (now : ℕ)
    × IsRefusal sql c (timed params c.formats now) limit db

-- It does such a statement, and is another then.
abbrev pub Performs : List ℕ → Row → Option ℕ → Database → Database → Type 0
Performs sql params limit db next =
    (c : Compiled) × (understood db.schema sql ≡ Ok c) × (now : ℕ) × (tally : Tally)
    × Does limit enforced (timed params c.formats now) db (text_of sql c) c.returning c.command (Ok (tally, next))

-- Statements that each add some cells beside a node are done, and have added these.
pub data HasAdded (node : NodeRow) (limit : Option ℕ) (db : Database) : List OwnCell → Database → Type 0 where
  nothing : HasAdded node limit db [] db
  also : (done some : List OwnCell) (mid next : Database) → HasAdded node limit db done mid
      → Performs (add_cells (length some)) (own_values node some) limit mid next
      → HasAdded node limit db (done ++ some) next

-- Such statements are done for a first part of the cells, and the next is refused.
pub record RefusesCells (node : NodeRow) (cells : List OwnCell) (limit : Option ℕ) (db : Database) : Type 0 where
  pub done : List OwnCell
  pub some : List OwnCell
  pub rest : List OwnCell
  pub parts : done ++ (some ++ rest) ≡ cells
  pub mid : Database
  pub added : HasAdded node limit db done mid
  pub refused : Refuses (add_cells (length some)) (own_values node some) limit mid

-- the disk failed or refused, or the connection was shut
abbrev pub IsFailed : State → State → Type 0
IsFailed old new = MoreFaults old.faults new.faults ⊎ (old.is_open ≡ false)

-- the rows of the four tables and of the indexes of their keys, with their rowids
abbrev pub trees_of : Trees → List (List Row)
trees_of trees = map trees (0 ∷ 1 ∷ 2 ∷ 3 ∷ 4 ∷ 5 ∷ [])

-- every number of the tables' rows fits 32 bits
abbrev pub FitsNode : NodeRow → Type 0
FitsNode n = (n.rel < 2 ^ 32) × ((n.kclass < 2 ^ 32) × (n.label < 2 ^ 32))

abbrev pub FitsCell : CellRow → Type 0
FitsCell c = (c.rel < 2 ^ 32) × ((c.kclass < 2 ^ 32) × ((c.label < 2 ^ 32) × (c.attr < 2 ^ 32)))

abbrev pub AreInRange : Tables → Type 0
AreInRange t = AllByRecursion FitsNode t.nodes × AllByRecursion FitsCell t.cells

-- a statement that does this to the rows of the four tables; an error leaves what was there, or undoes the transaction
pub record IsWrite (Rows : Tables → Tables → Type 0) (old new : State) (result : Result ℕ Error) : Type 0 where
  pub clean : HasCleanDisk new → HasCleanDisk old
  pub done : HasCleanDisk new → IsSchemaReady old.now → OnOk result (Changes Rows old new)
  pub cause : HasCleanDisk new → (IsTrue old.is_open → IsSchemaReady old.now) → IfErr result IsOfRun
  pub err : HasCleanDisk new → OnErr result (IsEnded old new)

-- statements in a change, which goes on; an error keeps what was committed
pub record AreWrites {A : Type 0} (Rows : Tables → Tables → Type 0) (old new : State)
    (result : Result A Error) : Type 0 where
  pub clean : HasCleanDisk new → HasCleanDisk old
  pub done : HasCleanDisk new → IsWithin old → OnOk result (GoesOn Rows old new)
  pub cause : HasCleanDisk new → IsWithin old → IfErr result IsOfRun
  pub err : HasCleanDisk new → IsWithin old → OnErr result (KeepsCommit old new)

-- a statement that makes a table, from one schema to the next
pub record IsMaking (before after : Schema) (old new : State) (result : Result ℕ Error) : Type 0 where
  pub clean : HasCleanDisk new → HasCleanDisk old
  pub made : HasCleanDisk new → IsMade before old.now → OnOk result (IsMade after new.now × IsNext old new)
  pub err : HasCleanDisk new → OnErr result (IsEnded old new)

-- a query over an open connection: of the four tables it finds this and changes nothing; an error leaves what was
-- there, or undoes
-- the transaction
pub record IsQuery {X : Type 0} (Finds : List X → Type 0) (sql : List ℕ) (params : Row) (old new : State)
    (result : Result (Vec X Global) Error) : Type 0 where
  pub clean : HasCleanDisk new → HasCleanDisk old
  pub was_open : HasCleanDisk new → OnOk result (IsTrue old.is_open)
  pub found : HasCleanDisk new → IsSchemaReady old.now → IfOk result (λ xs. Finds xs.items)
  pub same : HasCleanDisk new → IsSchemaReady old.now → OnOk result (IsUnchanged old new)
  pub cause : HasCleanDisk new → (IsTrue old.is_open → IsSchemaReady old.now)
      → IfErr result (λ e. IsOfRun e ⊎ (¬ AreInRange (tables_of old.now.trees)))
  pub err : HasCleanDisk new → (IsTrue old.is_open → IsSchemaReady old.now) → OnErr result (IsEnded old new)
  -- it was not answered, or not every number fits
  pub stopped : HasCleanDisk new → (IsTrue old.is_open → IsSchemaReady old.now)
      → IfErr result (λ e. e ≢ SqliteFailure code.OutOfMemory
      → FailsToQuery sql params old new e ⊎ (¬ AreInRange (tables_of old.now.trees)))

-- exactly one item passes the test
abbrev pub IsOne : {X : Type 0} → (X → Bool) → List X → X → Type 0
IsOne p xs x = filter p xs ≡ x ∷ []
