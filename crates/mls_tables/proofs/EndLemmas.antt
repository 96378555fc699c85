-- What calls leave of a connection, whatever their texts, and where changes begin and end.
use Rattle.std.proofs.Common.{◌≡◌, ◌⊎◌, inl, inr, ℕ, List, [], true, false, if◌then◌else◌, Option, Some, None, Ok, Err, Result, IsTrue, IfErr, OnOk, OnErr, codes, length, refl, sym, ap, subst, subst₂, true≢false, ◌∙◌, arith}
use Rattle.std.proofs.lemmas.Bool.{cases_Bool}
use Rattle.sqlite.specs.Order.{Row}
use Rattle.sqlite.specs.Tree.{Trees}
use Rattle.sqlite.specs.Schema.{Schema}
use Rattle.sqlite.specs.Clock.{timed}
use Rattle.sqlite.specs.Command.{Command}
use Rattle.sqlite.specs.Command.TheVariants.{Begin, Commit, Rollback}
use Rattle.sqlite.specs.Listing.{understood}
use Rattle.sqlite.specs.State.{State, HasCleanDisk, IsUnchanged, IsRolledBack, Fails, KeepsCommit, Survives, Executes, ExecutesIn, IsNotRun, IsNoStatement, RunsAlone, shows_rows, Shown, ShowsRows, FailsToQuery, FailsToShow, Commits, Writes}
use Rattle.sqlite.specs.declared.error.Error.{Error}
use Rattle.sqlite.proofs.Callers.{runs_as, IsPlain, command_of}
use Rattle.sqlite_resolve.specs.declared.compiled.Compiled.{Compiled}
use Rattle.sqlite_schema.specs.declared.command.Returning.{Returning}
use Rattle.sqlite.specs.Effect.{Database}
use Rattle.mls_tables.specs.Adopting.{HasRead}
use Rattle.mls_tables.specs.Rows.{Tables}
use Rattle.mls_tables.specs.Schema.{HasTables, IsMade}
use Rattle.mls_tables.specs.Statements.{IsSchemaReady, IsNext, IsEnded, IsOfRun, IsWrite, IsMaking, Changes, Begins}
use Rattle.mls_tables.specs.Store.{HasEnded}
use Rattle.mls_tables.proofs.Texts.{begin_is, commit_is, rollback_is, rollback_whole, IsWhole}

-- a statement that answers an error did nothing, or undid the transaction
pub ended : (old new : State) (sql : List ℕ) (params : Row) (r : Result ℕ Error) → Executes sql params old new r
    → OnErr r (IsEnded old new)
unfolding ExecutesIn IsNotRun
ended old new sql params (Ok count) h = tt
ended old new sql params (Err e) (inl (inl refused)) = inl refused.1
ended old new sql params (Err e) (inl (inr failed)) = inr failed.3
ended old new sql params (Err e) (inr h) = elim (cases_Bool (shows_rows false h.0)) [
  | inl shows ↦ inl (rw shows at h.2).1
  | inr runs ↦ elim (rw runs at h.2) [ inl refused ↦ inl refused.1 | inr failed ↦ inr failed.3 ]
]

fails_show : (old new : State) (sql : List ℕ) (c : Compiled) (params : Row) (e : Error) (r : Option Returning)
    → FailsToShow old new sql c params e r → IsEnded old new
fails_show old new sql c params e None it = inl it.3
fails_show old new sql c params e (Some what) (inl refused) = inl refused.1
fails_show old new sql c params e (Some what) (inr failed) = inr failed.3

pub fails_ended : (old new : State) (sql : List ℕ) (params : Row) (e : Error) → FailsToQuery sql params old new e
    → IsEnded old new
unfolding FailsToQuery IsNotRun
fails_ended old new sql params e (inl (inl refused)) = inl refused.1
fails_ended old new sql params e (inl (inr failed)) = inr failed.3
fails_ended old new sql params e (inr h) = fails_show old new sql h.0 _ e h.0.returning h.2

-- a statement that does what its text says
pub wrote : {Rows : Tables → Tables → Type 0} {Commits : Trees → Type 0} (old new : State) (sql : List ℕ) (params : Row)
    (r : Result ℕ Error) → (IsSchemaReady old.now → Executes sql params old new r → OnOk r (Changes Rows old new))
    → ((IsTrue old.is_open → IsSchemaReady old.now) → Executes sql params old new r → IfErr r IsOfRun)
    → (HasCleanDisk new → Executes sql params old new r) → Survives old new Commits → IsWrite Rows old new r
wrote old new sql params r did cause runs survives = record {
  clean = λ now. omega (arith, survives.clean);
  done = λ now ready. did ready (runs now);
  cause = λ now ready. cause ready (runs now);
  err = λ now. ended old new sql params r (runs now);
}

pub making : {before after : Schema} {Commits : Trees → Type 0} (old new : State) (sql : List ℕ) (r : Result ℕ Error)
    → (IsMade before old.now → Executes sql [] old new r → OnOk r (IsMade after new.now × IsNext old new))
    → (HasCleanDisk new → Executes sql [] old new r) → Survives old new Commits → IsMaking before after old new r
making old new sql r did runs survives = record {
  clean = λ now. omega (arith, survives.clean);
  made =
      λ now was. did was (runs now);
  err = λ now. ended old new sql [] r (runs now);
}

-- so what was committed is kept
pub keeps : (old new : State) → IsEnded old new → KeepsCommit old new
keeps old new (inl same) = record { was_open = λ _. same.0.was_open; committed = λ _. same.0.committed_is }
keeps old new (inr undone) = record { was_open = undone.was_open; committed = λ shows. (undone.undone shows).1 }

-- so it is where the transaction is ended then
pub kept_ended : (old mid new : State) → KeepsCommit old mid → HasEnded mid new → HasEnded old new
kept_ended old mid new kept end = record {
  mode = end.mode;
  was_open = λ here. kept.was_open (end.was_open here);
  now = λ here. end.now here ∙ kept.committed (end.was_open here);
  committed = λ here. end.committed here ∙ kept.committed (end.was_open here);
}

-- so it is of a query that does not begin
pub refused_keeps : (old new : State) (sql : List ℕ) (params : Row) (e : Error) → FailsToQuery sql params old new e
    → KeepsCommit old new
refused_keeps old new sql params e h = keeps old new (fails_ended old new sql params e h)

-- so it is of a query that goes on from where nothing was changed
pub stopped_keeps : (first old new : State) (e : Error) → IsUnchanged first old → Fails old new ⊥ e
    ⊎ IsUnchanged old new → KeepsCommit first new
stopped_keeps first old new e same (inl failed) = record {
  was_open = λ shows. same.0.was_open;
  committed =
      λ shows. (failed.3.undone shows).1 ∙ same.0.committed_is;
}
stopped_keeps first old new e same (inr stays) = record {
  was_open = λ shows. same.0.was_open;
  committed =
      λ shows. stays.0.committed_is ∙ same.0.committed_is;
}

pub always_ok : {A E : Type 0} (r : Result A E) (P : Type 0) → P → OnOk r P
always_ok (Ok x) P p = p
always_ok (Err e) P p = tt

pub always_err : {A E : Type 0} (r : Result A E) (P : Type 0) → P → OnErr r P
always_err (Ok x) P p = tt
always_err (Err e) P p = p

-- a query changes nothing
pub shown_unchanged : (sql : List ℕ) (params : Row) (old new : State) (rows : List Row)
    → IsPlain (understood old.now.schema sql) → Shown sql params old new rows → IsUnchanged old new
unfolding Shown
shown_unchanged sql params old new rows plain h =
    let none = (subst IsPlain h.1.is plain).0 in
    (subst (ShowsRows old new sql h.0 (timed params h.0.formats h.1.now) rows) none h.2).3

shows_open : (old new : State) (sql : List ℕ) (c : Compiled) (params : Row) (rows : List Row) (r : Option Returning)
    → ShowsRows old new sql c params rows r → IsTrue old.is_open
shows_open old new sql c params rows None h = h.3.0.was_open
shows_open old new sql c params rows (Some what) h = h.1.shown.was_open

-- only an open connection shows rows
pub shown_open : (old new : State) (sql : List ℕ) (params : Row) (rows : List Row) → Shown sql params old new rows
    → IsTrue old.is_open
unfolding Shown
shown_open old new sql params rows h = shows_open old new sql h.0 _ rows h.0.returning h.2

pub next : (old new : State) (command : Command) (text : List ℕ) (params : Row) (count : ℕ)
    → Writes old new None command text params count → IsNext old new
next old new command text params count w = record {
  was_open = w.shown.was_open;
  is_open = w.shown.is_open;
  mode =
      w.shown.mode;
  committed = w.shown.committed_is;
}

module _ (old new : State) where
  pub begun : (r : Result ℕ Error) → Executes (codes "BEGIN") [] old new r → OnOk r (Begins old new)
  begun (Err e) h = tt
  begun (Ok count) h =
      let ran = runs_as (codes "BEGIN") [] old new old.now.schema refl Begin (begin_is old.now.schema).0
      (begin_is old.now.schema).1 count h in
      record {
        was = ran.0;
        was_open = ran.1.was_open;
        is_open = ran.1.is_open;
        now = ran.1.now_is;
        committed =
            ran.1.committed_is;
        mode = ran.1.mode;
      }

  pub committed : (r : Result ℕ Error) → Executes (codes "COMMIT") [] old new r → OnOk r (Commits old new)
  committed (Err e) h = tt
  committed (Ok count) h =
      let ran = runs_as (codes "COMMIT") [] old new old.now.schema refl Commit (commit_is old.now.schema).0
      (commit_is old.now.schema).1 count h in
      (ran.1, ran.2, ran.4)

  -- a text that is one statement with no parameter is not refused as text
  pub not_refused : (sql : List ℕ) (e : Error) → IsWhole sql (understood old.now.schema sql)
      → ¬ IsNoStatement old sql [] e
  not_refused sql e whole (inl bad) = subst (IsWhole sql) bad.1 whole
  not_refused sql e whole (inr bad) =
      let known : IsWhole sql (Ok bad.0) = subst (IsWhole sql) bad.1 whole in
      elim bad.2 [
        | inl more ↦ more.0 known.0
        | inr (inl count) ↦ count.0 (sym (ap length known.1))
        | inr (inr late) ↦ late.0 known.2
      ]

  undone_alone : (e : Error) (c : Compiled) (params : Row) → c.command ≡ Rollback → c.returning ≡ None
      → IsTrue old.in_transaction → RunsAlone false old new (codes "ROLLBACK") c params (Err e) → IsRolledBack old new
  undone_alone e c params is plain begun h =
      let text = codes "ROLLBACK" in
      let at = subst₂ (λ k r. RunsAlone false old new text (record c { command = k; returning = r }) params
      (Err e)) is plain h in
      elim at [
        | inl refused ↦ absurd (elim refused.0 [
          | inl (inl state) ↦ elim state.1 [
            | inl begin ↦ (let e = begin.0 in cc)
            | inr outside ↦ (let e = outside.1
                in cc)
          ]
          | inl (inr mark) ↦ elim mark.2 [ inl release ↦ (cc) | inr back ↦ (cc) ]
          | inr changes ↦ elim changes.0 [ inl write ↦ write | inr some ↦ true≢false (sym some) ]
        ])
        | inr failed ↦ failed.3
      ]

  -- ROLLBACK in a transaction undoes it, whatever it answers
  pub undone : (r : Result ℕ Error) → IsTrue old.in_transaction → Executes (codes "ROLLBACK") [] old new r
      → IsRolledBack old new
  unfolding ExecutesIn IsNotRun
  undone (Ok count) begun h = (runs_as (codes "ROLLBACK") [] old new old.now.schema refl Rollback
      (rollback_is old.now.schema).0 (rollback_is old.now.schema).1 count h).1
  undone (Err e) begun (inl (inl refused)) =
      absurd (not_refused (codes "ROLLBACK") e (rollback_whole old.now.schema) refused.0)
  undone (Err e) begun (inl (inr failed)) = failed.3
  undone (Err e) begun (inr h) =
      let known = sym h.1.is in
      undone_alone e h.0 _ (ap command_of known ∙ (rollback_is old.now.schema).0) (subst IsPlain (sym known)
      (rollback_is old.now.schema).1).0 begun h.2

-- ---- transactions

-- what was read between BEGIN and COMMIT was there before
module _ (old begun read end : State) (begins : Begins old begun) where
  pub tables_begun : HasTables old.now.schema → HasTables begun.now.schema
  tables_begun has = subst (λ (db : Database). HasTables db.schema) (sym begins.now) has

  pub has_read : IsUnchanged begun read → Commits read end → HasRead old end
  has_read same done = record {
    is_open = done.0.is_open;
    mode = done.0.mode;
    same = done.0.now_is ∙ (same.0.now_is ∙ begins.now);
    committed = done.0.committed_is ∙ (same.0.now_is ∙ begins.now);
  }

-- nothing is added to what a change has made
pub nothing_added : (old first made end : State) → Begins old first → IsNext first made → IsEnded made end
    → KeepsCommit old end
nothing_added old first made end begins makes h =
    let as_made : made.committed ≡ first.committed = makes.committed
    ∙ ap (λ on. if on then first.committed else made.now) begins.mode in
    let same = as_made ∙ begins.committed in
    elim h [
      | inl nothing ↦ record { was_open = λ o. begins.was_open; committed = λ o. nothing.0.committed_is ∙ same }
      | inr rolled ↦ record { was_open = λ o. begins.was_open; committed = λ o. (rolled.undone o).1 ∙ same }
    ]

-- a change that was begun, went on, and ended with an error has committed nothing
pub nothing_kept : (old first made added end : State) (r : Result ℕ Error) → Begins old first → IsNext first made
    → IsNext made added → OnErr r (IsEnded added end) → OnErr r (KeepsCommit old end)
nothing_kept old first made added end (Ok count) begins makes adds h = tt
nothing_kept old first made added end (Err e) begins makes adds h =
    let in_change : made.in_transaction ≡ true = makes.mode ∙ begins.mode in
    let as_made : made.committed ≡ first.committed = makes.committed
    ∙ ap (λ on. if on then first.committed else made.now) begins.mode in
    let as_added : added.committed ≡ made.committed = adds.committed
    ∙ ap (λ on. if on then made.committed else added.now) in_change in
    let same = as_added ∙ (as_made ∙ begins.committed) in
    elim h [
      | inl nothing ↦ record { was_open = λ o. begins.was_open; committed = λ o. nothing.0.committed_is ∙ same }
      | inr rolled ↦ record { was_open = λ o. begins.was_open; committed = λ o. (rolled.undone o).1 ∙ same }
    ]
