-- Why a statement fails that is understood: the store failed, or the database refuses it.
use Rattle.std.proofs.Common.{◌≡◌, ◌≢◌, ◌⊎◌, inl, inr, ℕ, ◌≤◌, List, Bool, true, false, true≢false, if◌then◌else◌, Option, Some, None, Result, Err, IsTrue, refl, sym, subst, arith, ◌∙◌}
use Rattle.std.proofs.lemmas.Bool.{cases_Bool}
use Rattle.sqlite.specs.Order.{Row}
use Rattle.sqlite_trees.specs.declared.error.StoreError.{StoreError}
use Rattle.sqlite_trees.specs.declared.error.StoreError.TheVariants as store
use Rattle.sqlite_schema.specs.declared.command.Returning.{Returning}
use Rattle.sqlite_resolve.specs.declared.compiled.Compiled.{Compiled}
use Rattle.sqlite.specs.declared.error.Error.{Error}
use Rattle.sqlite.specs.declared.error.Error.TheVariants.{SqliteFailure, ExecuteReturnedResults}
use Rattle.sqlite.specs.declared.error.ErrorCode.TheVariants as code
use Rattle.sqlite.specs.State.{State, HasCleanDisk, HasCause, Fails, IsNoStatement, store_error, Executes, ExecutesIn, IsNotRun, RunsAlone, RunsCommand, shows_rows, FailsToShow, FailsToQuery}
use Rattle.mls_tables.specs.declared.store.StoreFault.{StoreFault}
use Rattle.mls_tables.specs.declared.store.StoreFault.TheVariants as fault
use Rattle.mls_tables.specs.Rows.{Tables, tables_of}
use Rattle.sqlite.specs.Effect.{Database}
use Rattle.mls_tables.specs.Statements.{IsSchemaReady, IsOfRun, IsRefusal, unstorable, refused, unread, Refuses, AreInRange, IsFailed, IsWithin, RefusesCells, trees_of}
use Rattle.mls_tables.specs.declared.rows.NodeRow.{NodeRow}
use Rattle.mls_tables.specs.declared.rows.OwnCell.{OwnCell}
use Rattle.mls_tables.specs.Store.{MatchesConnection, HasFallen}

-- an error that no statement which is understood gives
not_of : (e other : Error) → e ≡ other → ¬ IsOfRun other → IsOfRun e → ⊥
not_of e other is none of = none (subst IsOfRun is of)

module _ (old new : State) (sql : List ℕ) (params : Row) (e : Error) (of : IsOfRun e)
    (other : e ≢ SqliteFailure code.OutOfMemory) where
  by_cause : (big : Type 0) (cause : StoreError) → e ≡ store_error cause → HasCause old new big cause → IsFailed old new
      ⊎ big
  by_cause big store.OutOfMemory is h = absurd (other is)
  by_cause big store.Io is h = inl (inl h)
  by_cause big store.Corrupt is h = inl (inl h)
  by_cause big store.Full is h = inl (inl h)
  by_cause big store.Broken is h = inl (inr h)
  by_cause big store.Unstorable is h = inr h

  failed : (big : Type 0) → Fails old new big e → IsFailed old new ⊎ big
  failed big f = by_cause big f.0 f.1 f.2

  module _ (c : Compiled) (ps : Row) where
    abbrev Refusal : Type 0
    Refusal = IsRefusal sql c ps old.step_limit old.now

    by_command : RunsCommand old new sql c ps (Err e) → IsFailed old new ⊎ Refusal
    by_command h = elim h [
      | inl refusal ↦ elim refusal.0 [
        | inl (inl place) ↦ absurd (not_of e (SqliteFailure code.TransactionState) place.0
            (λ none. true≢false (sym none)) of)
        | inl (inr mark) ↦ absurd (not_of e (SqliteFailure code.NoSuchSavepoint) mark.0
            (λ none. true≢false (sym none)) of)
        | inr does ↦ inr (refused e of does.1)
      ]
      | inr fails ↦ elim (failed _ fails) [ inl x ↦ inl x | inr big ↦ inr (unstorable big) ]
    ]

    by_run : RunsAlone false old new sql c ps (Err e) → IsFailed old new ⊎ Refusal
    by_run h = elim (cases_Bool (shows_rows false c)) [
      | inl shows ↦ absurd (shown (rw shows at h).0)
      | inr runs ↦ by_command (rw runs at h)
    ]
      where
        shown : ◌≡◌ {A = Result ℕ Error} (Err e) (Err ExecuteReturnedResults) → ⊥
        shown is = not_of e ExecuteReturnedResults (let same : e ≡ ExecuteReturnedResults = cc in same)
            (λ none. true≢false (sym none)) of

    by_shown : (r : Option Returning) → c.returning ≡ r → FailsToShow old new sql c ps e r → IsFailed old new ⊎ Refusal
    by_shown None is h = inr (unread e of h.0 h.1 h.2)
    by_shown (Some what) is h = by_command h

  not_understood : IsNoStatement old sql params e → ⊥
  not_understood (inl bad) = not_of e _ bad.2 (λ none. true≢false (sym none)) of
  not_understood (inr bad) = elim bad.2 [
    | inl more ↦ not_of e _ more.1 (λ none. true≢false (sym none)) of
    | inr (inl count) ↦ not_of e _ count.1 (λ none. true≢false (sym none)) of
    | inr (inr late) ↦ not_of e _ late.1 (λ none. true≢false (sym none)) of
  ]

  not_run : IsNotRun old new sql params e → IsFailed old new
  unfolding IsNotRun
  not_run (inl bad) = absurd (not_understood bad.0)
  not_run (inr fails) = elim (failed ⊥ fails) [ inl x ↦ x | inr big ↦ absurd big ]

  abbrev Reason : Type 0
  Reason = IsFailed old new ⊎ Refuses sql params old.step_limit old.now

  pub statement_reason : Executes sql params old new (Err e) → Reason
  unfolding ExecutesIn
  statement_reason (inl none) = inl (not_run none)
  statement_reason (inr h) = elim (by_run h.0 _ h.2) [ inl x ↦ inl x | inr r ↦ inr (h.0, h.1.is, h.1.now, r) ]

  query_reason : FailsToQuery sql params old new e → Reason
  unfolding FailsToQuery
  query_reason (inl none) = inl (not_run none)
  query_reason (inr h) = elim (by_shown h.0 _ h.0.returning refl h.2) [
    | inl x ↦ inl x
    | inr r ↦ inr (
      h.0,
      h.1.is,
      h.1.now,
      r,
    )
  ]

-- ---- a call of a store

more_later : (m a b : ℕ) → m ≤ a → a ≤ b → m ≤ b
more_later m a b h k = omega (arith, h, k)

-- what a database with the rows of a connection does
abbrev Over : State → (Database → Type 0) → Type 0
Over s Does = (db : Database) × IsSchemaReady db × (trees_of db.trees ≡ trees_of s.now.trees) × Does db

module _ (old mid new : State) (begun : Bool) (last : Tables) (before after : ℕ) (e : Error) (f : StoreFault)
    (matches : MatchesConnection old begun last) (fallen : HasFallen mid new before after e f)
    (clean : HasCleanDisk mid → HasCleanDisk old) (disk : HasCleanDisk new) (is_store : f ≡ fault.Store) where
  not_memory : e ≢ SqliteFailure code.OutOfMemory
  not_memory want = let no : fault.Memory ≡ fault.Store = sym (fallen.cause.1 want) ∙ is_store in absurd cc

  here : HasCleanDisk mid
  here = fallen.clean disk

  ready : IsTrue old.is_open → IsSchemaReady old.now
  ready shown = matches.now (clean here) shown

  still : IsFailed old mid → IsFailed old new
  still (inl more) = inl (more_later _ mid.faults new.faults more fallen.faults)
  still (inr shut) = inr shut

  -- a connection that is not shut shows the tables
  by_open : (Big : Type 0) → (IsTrue old.is_open → IsFailed old new ⊎ Big) → IsFailed old new ⊎ Big
  by_open Big when = elim (cases_Bool old.is_open) [ inl on ↦ when on | inr off ↦ inl (inr off) ]

  module _ (sql : List ℕ) (params : Row) where
    abbrev IsRefused : Type 0
    IsRefused = Over old (Refuses sql params old.step_limit)

    over : IsTrue old.is_open → Refuses sql params old.step_limit old.now → IsRefused
    over on refuses = (old.now, ready on, refl, refuses)

    pub write_caused : (HasCleanDisk mid → (IsTrue old.is_open → IsSchemaReady old.now) → IsOfRun e)
        → (HasCleanDisk mid → Executes sql params old mid (Err e)) → IsFailed old new ⊎ IsRefused
    write_caused of runs = by_open IsRefused (λ on. elim (statement_reason old mid sql params e
        (of here ready) not_memory (runs here)) [ inl x ↦ inl (still x) | inr r ↦ inr (over on r) ])

    -- where it is open it shows the tables
    at_open : old.is_open ≡ true → ¬ AreInRange (tables_of old.now.trees)
        → ¬ AreInRange (if old.is_open then tables_of old.now.trees else last)
    at_open on = subst (λ (b : Bool). ¬ AreInRange (if b then tables_of old.now.trees else last)) (sym on)

    abbrev IsUnread : Type 0
    IsUnread = IsRefused ⊎ (¬ AreInRange (if old.is_open then tables_of old.now.trees else last))

    pub query_caused : (HasCleanDisk mid → (IsTrue old.is_open → IsSchemaReady old.now) → IsOfRun e
        ⊎ (¬ AreInRange (tables_of old.now.trees)))
        → (HasCleanDisk mid → (IsTrue old.is_open → IsSchemaReady old.now) → e ≢ SqliteFailure code.OutOfMemory
        → FailsToQuery sql params old mid e ⊎ (¬ AreInRange (tables_of old.now.trees)))
        → IsFailed old new ⊎ IsUnread
    query_caused of stopped = by_open IsUnread (λ on. elim (of here ready) [
      | inl run ↦ elim (stopped here ready not_memory) [
        | inl fails ↦ elim (query_reason old mid sql params e run not_memory fails) [
          | inl x ↦ inl
              (still x)
          | inr r ↦ inr (inl (over on r))
        ]
        | inr large ↦ inr (inr (at_open on large))
      ]
      | inr large ↦ inr (inr (at_open on large))
    ])

  -- of cells beside a node
  pub cells_caused : begun ≡ true → (n : NodeRow) (cs : List OwnCell)
      → (HasCleanDisk mid → IsWithin old → e ≢ SqliteFailure code.OutOfMemory → IsFailed old mid
      ⊎ RefusesCells n cs old.step_limit old.now)
      → IsFailed old new ⊎ Over old (RefusesCells n cs old.step_limit)
  cells_caused on n cs stopped =
      let open_now = matches.is_open (clean here) on in
      let within : IsWithin old = record {
        is_open = open_now;
        mode = matches.mode (clean here) open_now ∙ on;
        ready =
            ready open_now;
      } in
      elim (stopped here within not_memory) [ inl x ↦ inl (still x) | inr r ↦ inr (old.now, ready open_now, refl, r) ]
