-- What a store of the four tables shows, and what its calls do to it.
use Rattle.std.specs.Prelude.{◌≡◌, ◌⊎◌, ◌↔◌, ℕ, ◌<◌, ◌≤◌, Bool, true, false, if◌then◌else◌, List, Option, IsTrue}
use Rattle.std.specs.Prelude.{IfOk, IfErr}
use Rattle.std.specs.Prelude.{OnOk, Vec, Result}
use Rattle.std.specs.declared.alloc.Global.{Global}
use Rattle.sqlite_disk.specs.Disk.{MoreFaults}
use Rattle.sqlite_trees.specs.View.{doubt}
use Rattle.sqlite.specs.Effect.{Database}
use Rattle.sqlite.specs.State.{State, HasCleanDisk}
use Rattle.sqlite_value.specs.Order.{Row}
use Rattle.sqlite.specs.declared.error.Error.{Error}
use Rattle.sqlite.specs.declared.error.Error.TheVariants.{SqliteFailure}
use Rattle.sqlite.specs.declared.error.ErrorCode.TheVariants.{OutOfMemory}
use Rattle.mls_tables.specs.declared.rows.NodeRow.{NodeRow}
use Rattle.mls_tables.specs.declared.rows.OwnCell.{OwnCell}
use Rattle.mls_tables.specs.declared.store.StoreFault.{StoreFault}
use Rattle.mls_tables.specs.declared.store.StoreFault.TheVariants.{Store, Memory}
use Rattle.mls_tables.specs.Rows.{Tables, tables_of}
use Rattle.mls_tables.specs.Statements.{IsSchemaReady, AreInRange, Refuses, RefusesCells, trees_of}

-- the rows now and as of the last commit, whether a change is begun, whether the disk has so far given back what was
-- written to it, how many calls of the store have failed, whether the connection is open, and how many times the disk
-- has
-- failed or refused; the rows of the tables and of their indexes with their rowids, where it is open, and how many
-- steps a
-- statement may take
pub record TableState : Type 0 where
  pub now : Tables
  pub kept : Tables
  pub begun : Bool
  pub is_clean : Bool
  pub failures : ℕ
  pub is_open : Bool
  pub faults : ℕ
  pub trees : List (List Row)
  pub limit : Option ℕ

abbrev pub IsClean : TableState → Type 0
IsClean s = doubt s.is_clean ≡ 0

-- what a fault leaves: no change is begun, and the rows are those of the last commit
pub record IsStoreFault (fault : StoreFault) (old new : TableState) : Type 0 where
  pub store : fault ≡ Store → old.failures < new.failures
  pub mode : new.begun ≡ false
  pub rows : IsClean new → (new.now ≡ old.kept) × (new.kept ≡ old.kept)

-- the disk failed or refused in this call, or the connection was shut before it
abbrev pub HasFailed : TableState → TableState → Type 0
HasFailed old new = MoreFaults old.faults new.faults ⊎ (old.is_open ≡ false)

-- what every call keeps
pub record IsStoreCall {A : Type 0} (old new : TableState) (result : Result A StoreFault) : Type 0 where
  pub clean : IsClean new → IsClean old
  pub count : old.failures ≤ new.failures
  pub fault : IfErr result (λ e. IsStoreFault e old new)

-- the rows are changed, and those of the last commit are not
abbrev pub Writes : (Tables → Tables → Type 0) → TableState → TableState → Type 0
Writes Rows old new = Rows old.now new.now × (new.kept ≡ old.kept)

-- no row is changed
abbrev pub IsSame : TableState → TableState → Type 0
IsSame old new = (new.now ≡ old.now) × (new.kept ≡ old.kept)

-- a call that begins or ends a change: these are the rows then, and those of the last commit
pub record IsStoreTurn (begun : Bool) (rows : Tables) (old new : TableState)
    (result : Result (Unit {0}) StoreFault) : Type 0 where
  pub call : IsStoreCall old new result
  pub cause : IsClean new → IfErr result (λ e. e ≡ Store → HasFailed old new)
  pub mode : OnOk result (new.begun ≡ begun)
  pub done : IsClean new → OnOk result ((new.now ≡ rows) × (new.kept ≡ rows))

-- Store is answered only where the disk failed or refused, the connection was shut, or the database refuses what is
-- asked.
abbrev pub IsCaused : {A : Type 0} → Type 0 → TableState → TableState → Result A StoreFault → Type 0
IsCaused Refused old new result = IsClean new → IfErr result (λ e. e ≡ Store → HasFailed old new ⊎ Refused)

-- a database that has these rows of the four tables and of their indexes does so
abbrev pub IsOver : TableState → (Database → Type 0) → Type 0
IsOver old Does = (db : Database) × IsSchemaReady db × (trees_of db.trees ≡ old.trees) × Does db

-- the database refuses a statement
abbrev pub IsRefused : List ℕ → Row → TableState → Type 0
IsRefused sql params old = IsOver old (Refuses sql params old.limit)

-- it refuses one of those that add cells beside a node
abbrev pub AreCellsRefused : NodeRow → List OwnCell → TableState → Type 0
AreCellsRefused node cells old = IsOver old (RefusesCells node cells old.limit)

-- or a number that it reads fits no 32 bits
abbrev pub IsUnread : List ℕ → Row → TableState → Type 0
IsUnread sql params old = IsRefused sql params old ⊎ (¬ AreInRange old.now)

-- a call in a change, which does this to the rows, if the database does not refuse it
pub record IsStoreWrite (Rows : Tables → Tables → Type 0) (Refused : Type 0) (old new : TableState)
    (result : Result (Unit {0}) StoreFault) : Type 0 where
  pub call : IsStoreCall old new result
  pub mode : OnOk result (new.begun ≡ true)
  pub done : IsClean new → OnOk result (Writes Rows old new)
  pub cause : IsCaused Refused old new result

-- a call that finds this, if the database does not refuse it, and changes nothing
pub record IsStoreQuery {X : Type 0} (Finds : List X → Type 0) (Refused : Type 0) (old new : TableState)
    (result : Result (Vec X Global) StoreFault) : Type 0 where
  pub call : IsStoreCall old new result
  pub mode : OnOk result (new.begun ≡ old.begun)
  pub found : IsClean new → IfOk result (λ xs. Finds xs.items)
  pub same : IsClean new → OnOk result (IsSame old new)
  pub cause : IsCaused Refused old new result

-- ---- what a connection shows of that

abbrev pub table_state : State → Bool → ℕ → Tables → TableState
table_state s begun failures last = record {
  now = if s.is_open then tables_of s.now.trees else last;
  kept = if s.is_open then tables_of s.committed.trees else last;
  begun = begun;
  is_clean = s.is_clean;
  failures = failures;
  is_open = s.is_open;
  faults = s.faults;
  trees = trees_of s.now.trees;
  limit = s.step_limit;
}

-- Inside a change the connection is open. An open one shows the four tables, and `last` is what it committed last,
-- which is
-- remembered for when it is shut.
pub record MatchesConnection (s : State) (begun : Bool) (last : Tables) : Type 0 where
  pub is_open : HasCleanDisk s → IsTrue begun → IsTrue s.is_open
  pub mode : HasCleanDisk s → IsTrue s.is_open → s.in_transaction ≡ begun
  pub now : HasCleanDisk s → IsTrue s.is_open → IsSchemaReady s.now
  pub committed : HasCleanDisk s → IsTrue s.is_open → IsSchemaReady s.committed
  pub last_is : HasCleanDisk s → IsTrue s.is_open → last ≡ tables_of s.committed.trees
  pub settled : HasCleanDisk s → IsTrue s.is_open → begun ≡ false → s.now ≡ s.committed

-- no change is begun, and where the connection is open it shows what was committed before
pub record HasEnded (old new : State) : Type 0 where
  pub mode : new.in_transaction ≡ false
  pub was_open : IsTrue new.is_open → IsTrue old.is_open
  pub now : IsTrue new.is_open → new.now ≡ old.committed
  pub committed : IsTrue new.is_open → new.committed ≡ old.committed

-- the change is ended after a call that failed, and the failure is counted: how many failures there were and are, and
-- why it failed
pub record HasFallen (old new : State) (before after : ℕ) (error : Error) (fault : StoreFault) : Type 0 where
  pub clean : HasCleanDisk new → HasCleanDisk old
  pub ended : HasCleanDisk new → HasEnded old new
  pub cause : fault ≡ Memory ↔ error ≡ SqliteFailure OutOfMemory
  pub faults : old.faults ≤ new.faults
  pub count : before ≤ after
  pub store : fault ≡ Store → before < after
