-- Which tables are adopted, and what is read of them.
use Rattle.std.specs.Prelude.{◌≡◌, ◌≢◌, ◌⊎◌, ℕ, ◌^◌, ◌<◌, ℤ, pos, true, false, int_lt, List, [], ◌∷◌, ◌++◌, Bool, map}
use Rattle.std.specs.Prelude.{IsTrue, IsUtf8, IsPermutation, Result, Vec, IfOk, IfErr, OnOk, OnErr}
use Rattle.std.specs.List.{AllByRecursion}
use Rattle.std.specs.declared.alloc.Global.{Global}
use Rattle.sqlite_value.specs.declared.value.Value.{Value}
use Rattle.sqlite_value.specs.declared.value.Value.TheVariants.{Int, Text, Blob}
use Rattle.sqlite_value.specs.Order.{Row, column}
use Rattle.sqlite_trees.specs.Tree.{IsAscending}
use Rattle.sqlite_trees.specs.View.{is_int}
use Rattle.sqlite_rules.specs.Edit.{id_in}
use Rattle.sqlite.specs.declared.error.ErrorCode.TheVariants.{OutOfMemory}
use Rattle.sqlite.specs.declared.error.Error.{Error}
use Rattle.sqlite.specs.declared.error.Error.TheVariants.{SqliteFailure}
use Rattle.sqlite.specs.Effect.{Database}
use Rattle.sqlite.specs.Given.{IsPlain}
use Rattle.sqlite.specs.Listing.{understood}
use Rattle.sqlite.specs.State.{State, Shown, Begins, HasCleanDisk, IsUnchanged, KeepsCommit, FailsToQuery}
use Rattle.mls_tables.specs.declared.rows.MetaRow.{MetaRow}
use Rattle.mls_tables.specs.declared.adopting.AllRows.{AllRows}
use Rattle.mls_tables.specs.declared.adopting.AdoptFault.{AdoptFault}
use Rattle.mls_tables.specs.declared.adopting.AdoptFault.TheVariants.{BadRows}
use Rattle.mls_tables.specs.Rows.{Tables, tables_of, meta_of, node_columns, cell_columns, audit_columns, meta_columns}
use Rattle.mls_tables.specs.Rows.{is_node_row, is_cell_row, is_audit_row, is_meta_row}
use Rattle.mls_tables.specs.Schema.{HasTables}
use Rattle.mls_tables.specs.Statements.{AreRows, HasSettled}

-- ---- rows that read as what their tables are for, as queries show them

abbrev pub IsNumber : Value → Type 0
IsNumber v = (n : ℕ) × (v ≡ Int (pos n)) × (n < 2 ^ 32)

abbrev pub IsInteger : Value → Type 0
IsInteger v = (n : ℤ) × (v ≡ Int n)

abbrev pub IsBytes : Value → Type 0
IsBytes v = (b : List ℕ) × (v ≡ Blob b)

abbrev pub IsText : Value → Type 0
IsText v = (t : List ℕ) × (v ≡ Text t) × IsUtf8 t

abbrev pub ReadsNode : Row → Type 0
ReadsNode r = IsNumber (column r 0) × (IsBytes (column r 1)
    × (IsNumber (column r 2) × (IsNumber (column r 3) × IsBytes (column r 4))))

abbrev pub ReadsCell : Row → Type 0
ReadsCell r =
    IsNumber (column r 0) × (IsBytes (column r 1)
    × (IsNumber (column r 2) × (IsNumber (column r 3) × (IsNumber (column r 4) × IsBytes (column r 5)))))

abbrev pub ReadsEntry : Row → Type 0
ReadsEntry r = IsInteger (column r 0) × IsBytes (column r 1)

abbrev pub ReadsMeta : Row → Type 0
ReadsMeta r = IsInteger (column r 0) × (IsInteger (column r 1) × (IsText (column r 2) × IsText (column r 3)))

abbrev pub HaveIds : ℕ → List Row → Type 0
HaveIds at = AllByRecursion (λ r. IsInteger (column r at))

-- the integers at this place rise
abbrev pub AreRising : ℕ → List Row → Type 0
AreRising at rows = AllByRecursion (λ r. is_int (column r at) ≡ true) rows
    × IsAscending (λ a b. int_lt (id_in (column a at)) (id_in (column b at)) ≡ true) rows

-- only memory refuses rows that read
abbrev pub Refutes : Type 0 → Error → Type 0
Refutes P e = e ≢ SqliteFailure OutOfMemory → ¬ P

-- rows are called bad only where they are
abbrev pub Blames : Type 0 → AdoptFault → Type 0
Blames P e = e ≡ BadRows → ¬ P

-- this is what the rows of a query show, whose rowids rise
abbrev pub ShowsAll : {X : Type 0} → ℕ → (Row → X) → (Row → Bool) → List ℕ → State → State → List X → Type 0
ShowsAll at show shows sql old new xs =
    (given : List Row) × Shown sql [] old new given × (xs ≡ map show given) × AllByRecursion (λ r. shows r ≡ true) given
    × AreRising at given

-- a query is called bad only where a row of its answer does not read
abbrev pub BlamesOne : ℕ → (Row → Type 0) → List ℕ → State → AdoptFault → Type 0
BlamesOne at Reads sql s e = e ≡ BadRows → (given : List Row) × (row : Row) × Begins sql [] s (given ++ row ∷ [])
    × ¬ (Reads row × IsInteger (column row at))

-- a whole table, read row by row from where nothing was changed
pub record ReadsAll {X : Type 0} (at : ℕ) (show : Row → X) (shows : Row → Bool) (Reads : Row → Type 0) (sql : List ℕ)
    (old new : State) (result : Result (Vec X Global) AdoptFault) : Type 0 where
  pub clean : HasCleanDisk new → HasCleanDisk old
  pub all : HasCleanDisk new → IsPlain (understood old.now.schema sql)
      → IfOk result (λ xs. ShowsAll at show shows sql old new xs.items)
  pub same : HasCleanDisk new → IsPlain (understood old.now.schema sql) → OnOk result (IsUnchanged old new)
  pub bad : HasCleanDisk new → IsPlain (understood old.now.schema sql) → IfErr result (λ e. e ≡ BadRows
      → IsUnchanged old new × BlamesOne at Reads sql new e)
  pub left : HasCleanDisk new → IsPlain (understood old.now.schema sql) → OnErr result (KeepsCommit old new)

-- this is what the rows of a query show
abbrev pub ShowsSome : {X : Type 0} → (Row → X) → (Row → Bool) → List ℕ → Row → State → State → List X → Type 0
ShowsSome show shows sql params old new xs =
    (given : List Row) × Shown sql params old new given × (xs ≡ map show given)
    × AllByRecursion (λ r. shows r ≡ true) given

-- a query is refused, or its rows do not read
abbrev pub FailsToShow : (Row → Type 0) → List ℕ → Row → State → State → Error → Type 0
FailsToShow Reads sql params old new e =
    FailsToQuery sql params old new e ⊎ ((given : List Row) × Shown sql params old new given
    × Refutes (AllByRecursion Reads given) e)

-- ---- what is adopted

-- rows of each table, with their rowids, read
abbrev pub AreNodes : List Row → Type 0
AreNodes rows = AllByRecursion ReadsNode rows × HaveIds 5 rows

abbrev pub AreCells : List Row → Type 0
AreCells rows = AllByRecursion ReadsCell rows × HaveIds 6 rows

abbrev pub AreEntries : List Row → Type 0
AreEntries rows = AllByRecursion ReadsEntry rows × HaveIds 0 rows

abbrev pub IsVersion : ℤ → Type 0
IsVersion v = (v ≡ pos 1) ⊎ (v ≡ pos 2)

-- one row describes the store, of version 1 or 2
abbrev pub IsDescription : MetaRow → Database → Type 0
IsDescription m db = (map meta_of (db.trees 5) ≡ m ∷ []) × IsVersion m.version

abbrev pub IsReadDescription : Database → Type 0
IsReadDescription db = ((m : MetaRow) × IsDescription m db) × AllByRecursion ReadsMeta (map meta_columns (db.trees 5))

abbrev pub AreRead : Database → Type 0
AreRead db = AreNodes (map node_columns (db.trees 0)) × (AreCells (map cell_columns (db.trees 2))
    × AreEntries (map audit_columns (db.trees 4)))

-- the database has the four tables, and one row describes it, which reads
abbrev pub HasDescription : Database → Type 0
HasDescription db = HasTables db.schema × IsReadDescription db

-- the database has the four tables, and every row of the three others reads
abbrev pub HasReadRows : Database → Type 0
HasReadRows db = HasTables db.schema × AreRead db

-- the database has the four tables, and this is the one row that describes it
abbrev pub IsDescribed : MetaRow → Database → Type 0
IsDescribed m db = HasTables db.schema × (AreRows is_meta_row (db.trees 5) × IsDescription m db)

-- the rows of the three other tables are what they should be
abbrev pub HaveRows : Database → Type 0
HaveRows db = AreRows is_node_row (db.trees 0) × (AreRows is_cell_row (db.trees 2) × AreRows is_audit_row (db.trees 4))

-- all rows of a table, in any order
abbrev pub IsWholeTable : {X : Type 0} → (Row → Bool) → ℕ → (Tables → List X) → Database → Vec X Global → Type 0
IsWholeTable is_row tree items db rows = AreRows is_row (db.trees tree)
    × IsPermutation (items (tables_of db.trees)) rows.items

-- all rows of the three other tables, each table's in any order
abbrev pub AreAll : Tables → AllRows → Type 0
AreAll t rows = IsPermutation t.nodes rows.nodes.items × (IsPermutation t.cells rows.cells.items
    × IsPermutation t.audit rows.entries.items)

abbrev pub HasRows : Database → AllRows → Type 0
HasRows db rows = HaveRows db × AreAll (tables_of db.trees) rows

-- a transaction that changed nothing was begun and committed
pub record HasRead (old new : State) : Type 0 where
  pub is_open : IsTrue new.is_open
  pub mode : new.in_transaction ≡ false
  pub same : new.now ≡ old.now
  pub committed : new.committed ≡ old.now

-- the tables were read in one transaction, which is committed
pub record IsAdopted (old new : State) (rows : AllRows) : Type 0 where
  pub settled : HasSettled new
  pub same : new.now ≡ old.now
  pub all : AreAll (tables_of old.now.trees) rows

-- a call that reads of the four tables: an answer says this of them and changes nothing; an error keeps what was
-- committed, and rows
-- are called bad only of a database that does not read
pub record ReadsTables {X : Type 0} (Says : Database → X → Type 0) (Reads : Database → Type 0) (old new : State)
    (result : Result X AdoptFault) : Type 0 where
  pub clean : HasCleanDisk new → HasCleanDisk old
  pub says : HasCleanDisk new → HasTables old.now.schema → IfOk result (Says old.now)
  pub same : HasCleanDisk new → HasTables old.now.schema → OnOk result (IsUnchanged old new)
  pub left : HasCleanDisk new → HasTables old.now.schema → OnErr result (KeepsCommit old new)
  pub bad : HasCleanDisk new → HasTables old.now.schema → IfErr result (Blames (Reads old.now))

-- a call that reads the tables of a connection which is open: what an error leaves, and that rows are called bad only
-- of a
-- database that does not read
pub record IsReading {X : Type 0} (Left : State → State → Type 0) (Reads : Database → Type 0) (old new : State)
    (result : Result X AdoptFault) : Type 0 where
  pub clean : HasCleanDisk new → HasCleanDisk old
  pub schema : OnOk result (HasTables old.now.schema)
  pub was_open : HasCleanDisk new → OnOk result (IsTrue old.is_open)
  pub left : HasCleanDisk new → OnErr result (Left old new)
  pub bad : HasCleanDisk new → IfErr result (Blames (Reads old.now))
