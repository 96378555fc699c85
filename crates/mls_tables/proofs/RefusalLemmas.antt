-- A statement on rows whose text is understood fails because the store failed, or because the database refuses its
-- rows.
use Rattle.std.proofs.Common.{◌≡◌, inl, inr, ℕ, ◌+◌, ◌*◌, List, [], ◌∷◌, length, flat_map, true, false, Option, Some, None, Ok, Err, Result, IsTrue, IfErr, slice_get, arith, pos, refl, sym, ap, subst, subst₂, ◌∙◌, ◌⊎◌, true≢false}
use Rattle.std.proofs.lemmas.Bool.{cases_Bool}
use Rattle.sqlite.specs.Order.{Row}
use Rattle.sqlite.specs.declared.types.Value.TheVariants.{Int, Blob}
use Rattle.sqlite.specs.Table.{Table}
use Rattle.sqlite.specs.Term.{Term}
use Rattle.sqlite.specs.Command.{Command}
use Rattle.sqlite.specs.Command.TheVariants.{Insert, Update, Delete, Select}
use Rattle.sqlite.specs.Source.TheVariants.{Values}
use Rattle.sqlite_schema.specs.declared.program.Program.{Program}
use Rattle.sqlite_trees.specs.declared.error.StoreError.{StoreError}
use Rattle.sqlite_trees.specs.declared.error.StoreError.TheVariants as store
use Rattle.sqlite_rules.specs.declared.error.Refusal.{Refusal}
use Rattle.sqlite_rules.specs.declared.error.Refusal.TheVariants as refusal
use Rattle.sqlite_schema.specs.declared.command.Returning.{Returning}
use Rattle.sqlite_resolve.specs.declared.compiled.Compiled.{Compiled}
use Rattle.sqlite.specs.declared.error.Error.{Error}
use Rattle.sqlite.specs.declared.error.Error.TheVariants.{SqliteFailure}
use Rattle.sqlite.specs.declared.error.ErrorCode.TheVariants as code
use Rattle.sqlite.specs.declared.run.Mode.{Mode}
use Rattle.sqlite.specs.Effect.{Database, edit_error, RefusesToRead}
use Rattle.std.specs.Prelude.{option_map}
use Rattle.sqlite.specs.Rows.{Task, Written}
use Rattle.sqlite.specs.Does.{Does, OnRows, AtPlace, Concludes}
use Rattle.sqlite_schema.specs.declared.schema.Constraint.TheVariants.{ForeignKey}
use Rattle.sqlite.specs.Listing.{understood}
use Rattle.sqlite.specs.State.{State, mode_of, IsNoStatement, Fails, store_error, Executes, ExecutesIn, IsNotRun, RunsAlone, shows_rows, text_of, FailsToShow, FailsToQuery}
use Rattle.sqlite.proofs.Callers.{IsPlain, command_of}
use Rattle.mls_tables.specs.declared.rows.NodeRow.{NodeRow}
use Rattle.mls_tables.specs.declared.rows.OwnCell.{OwnCell}
use Rattle.mls_tables.specs.Rows.{own_values}
use Rattle.mls_tables.specs.Schema.{Others, schema}
use Rattle.mls_tables.specs.Statements.{IsSchemaReady, is_of_run, IsOfRun}
use Rattle.mls_tables.specs.Adopting.{Refutes}
use Rattle.mls_tables.proofs.EditParts.{plainly}
use Rattle.mls_tables.proofs.Texts.{Means, Asks, IsTaken, Takes}

-- ---- the parts of a statement

of_store : (cause : StoreError) → IsOfRun (store_error cause)
of_store store.OutOfMemory = refl
of_store store.Io = refl
of_store store.Corrupt = refl
of_store store.Full = refl
of_store store.Broken = refl
of_store store.Unstorable = refl

of_edit : (why : Refusal) → IsOfRun (edit_error why)
of_edit (refusal.Violates rule) = refl
of_edit refusal.Mismatch = refl
of_edit refusal.BadReference = refl
of_edit refusal.NoRowid = refl
of_edit refusal.TooDeep = refl

same_error : {A : Type 0} (e : Error) (stop : Option Error) → ◌≡◌ {A = Result A (Option Error)} (Err (Some e))
    (Err stop) → stop ≡ Some e
same_error e stop h = cc

same_some : (e f : Error) → ◌≡◌ {A = Option Error} (Some e) (Some f) → e ≡ f
same_some e f h = cc

-- a part that was refused was so in its first part, or after it
stopped : {A R : Type 0} {e : Error} {Stops : Option Error → Type 0} → ((stop : Option Error) × Stops stop
    × ◌≡◌ {A = Result A (Option Error)} (Err (Some e)) (Err stop)) ⊎ R → Stops (Some e) ⊎ R
stopped {e} {Stops} (inl s) = inl (subst Stops (same_error e s.0 s.2) s.1)
stopped (inr r) = inr r

not_given : {A : Type 0} {a : A} {e : Error} → ¬ ◌≡◌ {A = Result A (Option Error)} (Err (Some e)) (Ok a)
not_given h = cc

of_query : {A B C : Type 0} (e : Error) → ((e ≡ SqliteFailure code.TypeMismatch) × A)
    ⊎ (((e ≡ SqliteFailure code.IntegerOverflow) × B) ⊎ ((e ≡ SqliteFailure code.OperationInterrupted) × C)) → IsOfRun e
of_query e (inl kinds) = subst IsOfRun (sym kinds.0) refl
of_query e (inr (inl large)) = subst IsOfRun (sym large.0) refl
of_query e (inr (inr long)) = subst IsOfRun (sym long.0) refl

of_values : {A B : Type 0} (e : Error) → ((e ≡ SqliteFailure code.TypeMismatch) × A)
    ⊎ ((e ≡ SqliteFailure code.OperationInterrupted) × B) → IsOfRun e
of_values e (inl kinds) = subst IsOfRun (sym kinds.0) refl
of_values e (inr long) = subst IsOfRun (sym long.0) refl

of_edited : {W : Option Refusal → Type 0} (e : Error) → (why : Option Refusal) × W why
    × (Some e ≡ option_map edit_error why) → IsOfRun e
of_edited e (None, writes, is) = absurd (cc)
of_edited e (Some why, writes, is) = subst IsOfRun (sym (same_some e (edit_error why) is)) (of_edit why)

of_tested : {N : Type 0} (e : Error) → N × (Some e ≡ Some (SqliteFailure (code.ConstraintViolation ForeignKey)))
    → IsOfRun e
of_tested e h = subst IsOfRun (sym (same_some e _ h.1)) refl

-- ---- a statement

-- a write of the rows of a table, which shows nothing
abbrev pub IsRowWrite : ℕ → Command → Type 0
IsRowWrite at command =
    ((terms : List Term) × (width : ℕ) × (command ≡ Insert at (Values terms width)))
    ⊎ (((q : Program) × (command ≡ Delete at q)) ⊎ ((q : Program) × (command ≡ Update at q)))

module _ (limit : Option ℕ) (mode : Mode) (params : Row) (db : Database) (text : List ℕ) (at : ℕ) (bare : Table)
    (there : slice_get db.schema.tables at ≡ Some (plainly bare)) where
  abbrev OnIt : Command → Option Table → Error → Type 0
  OnIt command t e = AtPlace (λ table. OnRows (record {
    limit = limit;
    keys = mode.keys;
    schema = db.schema;
    table =
        table;
    params = params;
  }) mode None command db.trees) t (Err (Some e))

  abbrev task : Task
  task = record { limit = limit; keys = mode.keys; schema = db.schema; table = plainly bare; params = params }

  -- after the rows are written
  concluded : (w : Written) (e : Error) → Concludes task mode None w (Err (Some e)) → IsOfRun e
  concluded w e h = elim (stopped h) [
    | inl tested ↦ of_tested e tested
    | inr in_doubt ↦ elim (stopped in_doubt.2) [
      | inl shown ↦ absurd (not_given shown)
      | inr rows ↦ absurd
          (not_given rows.2)
    ]
  ]

  of_inserts : (terms : List Term) (width : ℕ) (e : Error) → Does limit mode params db text None
      (Insert at (Values terms width)) (Err (Some e)) → IsOfRun e
  of_inserts terms width e h = elim (stopped (subst (λ t. OnIt (Insert at (Values terms width)) t e) there h)) [
    | inl writes ↦ elim (stopped writes) [
      | inl source ↦ of_values e source
      | inr given ↦ elim (stopped given.2) [
        | inl counter ↦ absurd (not_given counter)
        | inr counted ↦ elim (stopped counted.2) [
          | inl edited ↦ of_edited e edited
          | inr mid ↦ elim (stopped mid.2) [ inl next ↦ absurd (not_given next) | inr end ↦ absurd (not_given end.2) ]
        ]
      ]
    ]
    | inr written ↦ concluded written.0 e written.2
  ]

  of_deletes : (q : Program) (e : Error) → Does limit mode params db text None (Delete at q) (Err (Some e)) → IsOfRun e
  of_deletes q e h = elim (stopped (subst (λ t. OnIt (Delete at q) t e) there h)) [
    | inl writes ↦ elim (stopped writes) [
      | inl source ↦ of_query e source
      | inr given ↦ elim (stopped given.2) [ inl edited ↦ of_edited e edited | inr next ↦ absurd (not_given next.2) ]
    ]
    | inr written ↦ concluded written.0 e written.2
  ]

  of_updates : (q : Program) (e : Error) → Does limit mode params db text None (Update at q) (Err (Some e)) → IsOfRun e
  of_updates q e h = elim (stopped (subst (λ t. OnIt (Update at q) t e) there h)) [
    | inl writes ↦ elim (stopped writes) [
      | inl source ↦ of_query e source
      | inr given ↦ elim (stopped given.2) [ inl edited ↦ of_edited e edited | inr next ↦ absurd (not_given next.2) ]
    ]
    | inr written ↦ concluded written.0 e written.2
  ]

module _ (old new : State) (sql : List ℕ) where
  of_fails : (big : Type 0) (e : Error) → Fails old new big e → IsOfRun e
  of_fails big e failed = subst IsOfRun (sym failed.1) (of_store failed.0)

  -- what fails for another cause than the store is run on an open connection
  opened : (c : Compiled) (params : Row) (e : Error) → RunsAlone false old new sql c params (Err e) → IsTrue old.is_open
      ⊎ IsOfRun e
  opened c params e h = elim (cases_Bool (shows_rows false c)) [
    | inl shows ↦ inl (rw shows at h).1.0.was_open
    | inr runs ↦ elim (rw runs at h) [ inl refused ↦ inl refused.1.0.was_open | inr failed ↦ inr (of_fails _ e failed) ]
  ]

  module _ (at : ℕ) (bare : Table) (there : slice_get old.now.schema.tables at ≡ Some (plainly bare)) (c : Compiled)
      (params : Row) (e : Error) (plain : c.returning ≡ None)
      (h : RunsAlone false old new sql c params (Err e)) where
    alone_insert : (terms : List Term) (width : ℕ) → c.command ≡ Insert at (Values terms width) → IsOfRun e
    alone_insert terms width is =
        let it = subst₂ (λ k r. RunsAlone false old new sql (record c { command = k; returning = r }) params
        (Err e)) is plain h in
        elim it [
          | inl refused ↦ elim refused.0 [
            | inl (inl state) ↦ absurd (elim state.1 [
              | inl begin ↦ (let e = begin.0
                  in cc)
              | inr outside ↦ elim outside.0 [ inl commit ↦ (cc) | inr back ↦ (cc) ]
            ])
            | inl (inr mark) ↦ absurd (elim mark.2 [ inl release ↦ (cc) | inr back ↦ (cc) ])
            | inr does ↦ of_inserts old.step_limit (mode_of old) params old.now
                (text_of sql c) at bare there terms width e does.1
          ]
          | inr failed ↦ of_fails _ e failed
        ]

    alone_delete : (q : Program) → c.command ≡ Delete at q → IsOfRun e
    alone_delete q is =
        let it = subst₂ (λ k r. RunsAlone false old new sql (record c { command = k; returning = r }) params
        (Err e)) is plain h in
        elim it [
          | inl refused ↦ elim refused.0 [
            | inl (inl state) ↦ absurd (elim state.1 [
              | inl begin ↦ (let e = begin.0
                  in cc)
              | inr outside ↦ elim outside.0 [ inl commit ↦ (cc) | inr back ↦ (cc) ]
            ])
            | inl (inr mark) ↦ absurd (elim mark.2 [ inl release ↦ (cc) | inr back ↦ (cc) ])
            | inr does ↦ of_deletes old.step_limit (mode_of old) params old.now (text_of sql c) at bare there q e does.1
          ]
          | inr failed ↦ of_fails _ e failed
        ]

    alone_update : (q : Program) → c.command ≡ Update at q → IsOfRun e
    alone_update q is =
        let it = subst₂ (λ k r. RunsAlone false old new sql (record c { command = k; returning = r }) params
        (Err e)) is plain h in
        elim it [
          | inl refused ↦ elim refused.0 [
            | inl (inl state) ↦ absurd (elim state.1 [
              | inl begin ↦ (let e = begin.0
                  in cc)
              | inr outside ↦ elim outside.0 [ inl commit ↦ (cc) | inr back ↦ (cc) ]
            ])
            | inl (inr mark) ↦ absurd (elim mark.2 [ inl release ↦ (cc) | inr back ↦ (cc) ])
            | inr does ↦ of_updates old.step_limit (mode_of old) params old.now (text_of sql c) at bare there q e does.1
          ]
          | inr failed ↦ of_fails _ e failed
        ]

    alone : (command : Command) → IsRowWrite at command → c.command ≡ command → IsOfRun e
    alone command (inl insert) is = alone_insert insert.0 insert.1 (is ∙ insert.2)
    alone command (inr (inl delete)) is = alone_delete delete.0 (is ∙ delete.1)
    alone command (inr (inr update)) is = alone_update update.0 (is ∙ update.1)

  -- a text that is one statement, with these parameters, is not refused as text
  pub is_understood : (params : Row) (e : Error) → IsTaken (length params) sql (understood old.now.schema sql)
      → IsPlain (understood old.now.schema sql) → ¬ IsNoStatement old sql params e
  is_understood params e taken plain (inl bad) = subst (IsTaken (length params) sql) bad.1 taken
  is_understood params e taken plain (inr bad) =
      let known : IsTaken (length params) sql (Ok bad.0) = subst (IsTaken (length params) sql) bad.1 taken in
      let bare : IsPlain (Ok bad.0) = subst IsPlain bad.1 plain in
      elim bad.2 [
        | inl more ↦ more.0 known.0
        | inr (inl count) ↦ count.0 (sym known.1)
        | inr (inr late) ↦ late.0 bare.1
      ]

  module _ (at : ℕ) (bare : Table) (params : Row) (command : Command) (write : IsRowWrite at command)
      (there : (o : Others) → slice_get (schema o).tables at ≡ Some (plainly bare))
      (means : (o : Others) → Means (schema o) sql command) (takes : (o : Others)
      → Takes (length params) (schema o) sql) where
    caused_in : (o : Others) → old.now.schema ≡ schema o → (e : Error) (c : Compiled) → understood old.now.schema sql
        ≡ Ok c → (ps : Row) → RunsAlone false old new sql c ps (Err e) → IsOfRun e
    caused_in o has e c is ps h =
        let known = sym is ∙ ap (λ s. understood s sql) has in
        let bare_is = subst IsPlain (sym known) (means o).1 in
        alone at bare (subst (λ s. slice_get s.tables at ≡ Some (plainly bare)) (sym has)
        (there o)) c ps e bare_is.0 h command write (ap command_of known ∙ (means o).0)

    pub caused : (r : Result ℕ Error) → (IsTrue old.is_open → IsSchemaReady old.now) → Executes sql params old new r
        → IfErr r IsOfRun
    unfolding ExecutesIn IsNotRun
    caused (Ok count) ready h = tt
    caused (Err e) ready (inl (inl refused)) =
        let has = (ready refused.1.0.was_open).0 in
        absurd (is_understood params e (subst (λ s. IsTaken (length params) sql (understood s sql)) (sym has.is)
        (takes has.others)) (subst (λ s. IsPlain (understood s sql)) (sym has.is) (means has.others).1) refused.0)
    caused (Err e) ready (inl (inr failed)) = of_fails ⊥ e failed
    caused (Err e) ready (inr h) = elim (opened h.0 _ e h.2) [
      | inl on ↦ let has = (ready on).0 in caused_in has.others has.is e h.0 h.1.is _ h.2
      | inr of ↦ of
    ]

  -- ---- a query

  shown_opened : (c : Compiled) (params : Row) (e : Error) (r : Option Returning) → FailsToShow old new sql c params e r
      → IsTrue old.is_open ⊎ IsOfRun e
  shown_opened c params e None it = inl it.3.0.was_open
  shown_opened c params e (Some what) (inl refused) = inl refused.1.0.was_open
  shown_opened c params e (Some what) (inr failed) = inr (of_fails _ e failed)

  module _ (params : Row) (q : Program) (names : List (List ℕ)) (asks : (o : Others)
      → Asks (schema o) sql (Select q names)) (takes : (o : Others) → Takes (length params) (schema o) sql) where
    not_shown : (o : Others) → old.now.schema ≡ schema o → (e : Error) (c : Compiled) → understood old.now.schema sql
        ≡ Ok c → (ps : Row) → FailsToShow old new sql c ps e c.returning → IsOfRun e
    not_shown o has e c is ps h =
        let known = sym is ∙ ap (λ s. understood s sql) has in
        let none = (subst IsPlain (sym known) (asks o).1).0 in
        let it = subst (FailsToShow old new sql c ps e) none h in
        of_query e (subst (λ k. RefusesToRead old.step_limit k it.0 ps e) (ap command_of known ∙ (asks o).0) it.2)

    pub query_caused : (e : Error) → (IsTrue old.is_open → IsSchemaReady old.now) → FailsToQuery sql params old new e
        → IsOfRun e
    unfolding FailsToQuery IsNotRun
    query_caused e ready (inl (inl refused)) =
        let has = (ready refused.1.0.was_open).0 in
        absurd (is_understood params e (subst (λ s. IsTaken (length params) sql (understood s sql)) (sym has.is)
        (takes has.others)) (subst (λ s. IsPlain (understood s sql)) (sym has.is) (asks has.others).1) refused.0)
    query_caused e ready (inl (inr failed)) = of_fails ⊥ e failed
    query_caused e ready (inr h) = elim (shown_opened h.0 _ e h.0.returning h.2) [
      | inl on ↦ let has = (ready on).0 in not_shown has.others has.is e h.0 h.1.is _ h.2
      | inr of ↦ of
    ]

-- rows that read are refused for want of memory alone
pub rows_caused : {P : Type 0} (e : Error) → Refutes P e → P → IsOfRun e
rows_caused e refutes reads = elim (cases_Bool (is_of_run e)) [
  | inl run ↦ run
  | inr other ↦ absurd (refutes (λ want. true≢false (sym (subst IsOfRun (sym want) refl) ∙ other)) reads)
]

-- ---- the parameters of cells beside a node

own_pairs_length : (cs : List OwnCell) → length (flat_map (λ c. Int (pos c.attr) ∷ Blob c.value ∷ []) cs)
    ≡ 2 * length cs
own_pairs_length [] = refl
own_pairs_length (c ∷ cs) = let more = own_pairs_length cs in omega (arith, more)

pub own_length : (n : NodeRow) (cs : List OwnCell) → length (own_values n cs) ≡ 4 + 2 * length cs
own_length n cs = let pairs = own_pairs_length cs in omega (arith, pairs)
