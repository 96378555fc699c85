-- Cells that are added beside a node, some by each statement.
use Rattle.std.proofs.Common.{◌≡◌, ◌≢◌, ◌⊎◌, inl, inr, ℕ, zero, suc, ◌+◌, ◌-◌, ◌<◌, ◌≤◌, List, [], ◌++◌, false, true, true≢false, length, Ok, Err, Result, IfErr, OnOk, refl, sym, ap, subst, arith, ◌∙◌}
use Rattle.std.specs.Prelude.{⊤}
use Rattle.std.proofs.lemmas.Bool.{cases_Bool}
use Rattle.sqlite.specs.Order.{Row}
use Rattle.sqlite.specs.Term.{Term}
use Rattle.sqlite.specs.Command.{Command}
use Rattle.sqlite.specs.Command.TheVariants.{Insert}
use Rattle.sqlite.specs.Source.TheVariants.{Values}
use Rattle.sqlite.specs.Clock.{timed}
use Rattle.sqlite.specs.Does.{Does}
use Rattle.sqlite.specs.State.{State, HasCleanDisk, Executes, ExecutesIn, Runs, Writes, shows_rows, text_of}
use Rattle.sqlite.specs.declared.error.Error.{Error}
use Rattle.sqlite.specs.declared.error.Error.TheVariants.{SqliteFailure}
use Rattle.sqlite.specs.declared.error.ErrorCode.TheVariants as code
use Rattle.sqlite.proofs.Callers.{command_of}
use Rattle.mls_tables.specs.declared.rows.NodeRow.{NodeRow}
use Rattle.mls_tables.specs.declared.rows.OwnCell.{OwnCell}
use Rattle.mls_tables.specs.Rows.{own_values}
use Rattle.mls_tables.specs.Schema.{schema}
use Rattle.mls_tables.specs.Sql.{add_cells}
use Rattle.mls_tables.specs.Statements.{IsSchemaReady, IsOfRun, IsWithin, IsFailed, Performs, Refuses, HasAdded, nothing, also, RefusesCells, enforced}
use Rattle.mls_tables.proofs.Texts.{Means, AddsOwn, add_own, own_terms}
use Rattle.mls_tables.proofs.Causes.{add_own_fails}
use Rattle.mls_tables.proofs.ReasonLemmas.{statement_reason}

-- ---- the texts

-- each is a first part of the one that adds 15
abbrev AreCut : ℕ → ℕ → Type 0
AreCut count zero = ⊤
AreCut count (suc more) = (add_own count ≡ add_cells count) × AreCut (suc count) more

are_cut : AreCut 1 15
are_cut = (
  refl,
  (
    refl,
    (
      refl,
      (
        refl,
        (
          refl,
          (refl, (refl, (refl, (refl, (refl, (refl, (refl, (refl, (refl, (refl, tt)))))))))),
        ),
      ),
    ),
  ),
)

one_cut : (count more at : ℕ) → AreCut count more → at < more → add_own (count + at) ≡ add_cells (count + at)
one_cut count zero at cut within = absurd (omega (arith, within))
one_cut count (suc more) zero cut within = subst (λ n. add_own n ≡ add_cells n) (omega arith) cut.0
one_cut count (suc more) (suc at) cut within = subst (λ n. add_own n ≡ add_cells n) (omega arith)
    (one_cut (suc count) more at cut.1 (omega (arith, within)))

pub is_cut : (count : ℕ) → 0 < count → count ≤ 15 → add_own count ≡ add_cells count
is_cut count some few =
    let first : 1 + (count - 1) ≡ count = omega (arith, some) in
    subst (λ n. add_own n ≡ add_cells n) first (one_cut 1 15 (count - 1) are_cut (omega (arith, some, few)))

-- ---- one statement

-- a statement that adds rows is done by the database
performs : (old new : State) (sql : List ℕ) (params : Row) (at : ℕ) (terms : List Term) (width : ℕ)
    → Means old.now.schema sql (Insert at (Values terms width))
    → (count : ℕ) → Executes sql params old new (Ok count) → Performs sql params old.step_limit old.now new.now
unfolding ExecutesIn
performs old new sql params at terms width means count h =
    let c = h.0 in
    let ps = timed params c.formats h.1.now in
    let text = text_of sql c in
    let is : c.command ≡ Insert at (Values terms width) = ap command_of (sym h.1.is) ∙ means.0 in
    let ran : Runs old new c.returning c.command text ps count = elim (cases_Bool (shows_rows false c)) [
      | inl shows ↦ absurd (let e = (rw shows at h.2).0 in cc)
      | inr runs ↦ rw runs at h.2
    ] in
    let w : Writes old new c.returning (Insert at (Values terms width)) text ps count =
    subst (λ (k : Command). Runs old new c.returning k text ps count) is ran in (
      c,
      h.1.is,
      h.1.now,
      w.tally,
      subst (λ (k : Command). Does old.step_limit enforced ps old.now text c.returning k
          (Ok (w.tally, new.now))) (sym is) w.changed,
    )

module _ (old new : State) (n : NodeRow) (cs : List OwnCell) (text : List ℕ) (is : text ≡ add_cells (length cs))
    (means : AddsOwn text (length cs)) (ready : IsSchemaReady old.now) where
  pub some_done : (r : Result ℕ Error) → Executes text (own_values n cs) old new r
      → OnOk r (Performs (add_cells (length cs)) (own_values n cs) old.step_limit old.now new.now)
  some_done (Err e) h = tt
  some_done (Ok count) h =
      let meant : Means old.now.schema text (Insert 1 (Values (own_terms 4 (length cs)) 7)) =
      subst (λ s. Means s text (Insert 1 (Values (own_terms 4 (length cs)) 7))) (sym ready.0.is)
      (means.0 ready.0.others).0 in
      subst (λ sql. Performs sql (own_values n cs) old.step_limit old.now new.now) is
      (performs old new text (own_values n cs) 1 (own_terms 4 (length cs)) 7 meant count h)

  pub some_stopped : (r : Result ℕ Error) → Executes text (own_values n cs) old new r
      → IfErr r (λ e. e ≢ SqliteFailure code.OutOfMemory → IsFailed old new ⊎ Refuses (add_cells (length cs))
      (own_values n cs) old.step_limit old.now)
  some_stopped (Ok count) h = tt
  some_stopped (Err e) h = λ (other : e ≢ SqliteFailure code.OutOfMemory).
      let of : IsOfRun e = add_own_fails old new (Err e) (λ _. ready) n cs text means h in
      subst (λ sql. IsFailed old new ⊎ Refuses sql (own_values n cs) old.step_limit old.now) is
      (statement_reason old new text (own_values n cs) e of other h)

-- ---- one after another

-- what those that are done have added so far
abbrev pub HasAddedSoFar : NodeRow → List OwnCell → State → State → Type 0
HasAddedSoFar n done first s = (HasCleanDisk s → IsWithin first → HasAdded n first.step_limit first.now done s.now)
    × (first.faults ≤ s.faults) × (s.step_limit ≡ first.step_limit)

pub nothing_added : (n : NodeRow) (s : State) → HasAddedSoFar n [] s s
nothing_added n s = (λ clean within. nothing, omega arith, refl)

module _ (n : NodeRow) (first old new : State) (done some : List OwnCell) (before : HasAddedSoFar n done first old)
    (clean : HasCleanDisk new → HasCleanDisk old) (goes : HasCleanDisk old → IsWithin first → IsWithin old) where
  pub more_added : (HasCleanDisk new → IsWithin old → Performs (add_cells (length some))
      (own_values n some) old.step_limit old.now new.now) → old.faults ≤ new.faults → new.step_limit ≡ old.step_limit
      → HasAddedSoFar n (done ++ some) first new
  more_added did faults limit = (
    λ now within. also done some old.now new.now (before.0 (clean now) within)
        (subst (λ l. Performs (add_cells (length some)) (own_values n some) l old.now new.now) before.2
        (did now (goes (clean now) within))),
    omega (arith, before.1, faults),
    limit ∙ before.2,
  )

  pub rest_stopped : (cells rest : List OwnCell) → done ++ (some ++ rest) ≡ cells → (e : Error)
      → (HasCleanDisk new → IsWithin old → e ≢ SqliteFailure code.OutOfMemory → IsFailed old new
      ⊎ Refuses (add_cells (length some)) (own_values n some) old.step_limit old.now)
      → HasCleanDisk new → IsWithin first → e ≢ SqliteFailure code.OutOfMemory → IsFailed first new
      ⊎ RefusesCells n cells first.step_limit first.now
  rest_stopped cells rest parts e stopped now within other =
      let inside = goes (clean now) within in
      elim (stopped now inside other) [
        | inl (inl more) ↦ inl (inl (omega (arith, more, before.1)))
        | inl (inr shut) ↦ absurd (true≢false (sym inside.is_open ∙ shut))
        | inr refuses ↦ inr (record {
          done = done;
          some = some;
          rest = rest;
          parts = parts;
          mid = old.now;
          added = before.0 (clean now) within;
          refused = subst (λ l. Refuses (add_cells (length some)) (own_values n some) l old.now) before.2 refuses;
        })
      ]
