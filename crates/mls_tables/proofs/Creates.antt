-- What CREATE TABLE comes to.
use Rattle.std.proofs.Common.{◌≡◌, ℕ, List, [], ◌∷◌, false, Ok, Err, Result, OnOk, None, refl, sym, ap, subst, ◌∙◌}
use Rattle.std.specs.List.{AllByRecursion}
use Rattle.sqlite.specs.Table.{Table}
use Rattle.sqlite.specs.Tree.{Trees}
use Rattle.sqlite.specs.Schema.{Schema}
use Rattle.sqlite.specs.Change.{created, next_tree, KeepsRows}
use Rattle.sqlite.specs.Command.TheVariants.{CreateTable}
use Rattle.sqlite.specs.declared.error.Error.{Error}
use Rattle.sqlite.specs.Does.{Tally, lacks_sequence}
use Rattle.sqlite.specs.Effect.{Database}
use Rattle.sqlite.specs.State.{State, Writes, Executes}
use Rattle.sqlite.proofs.Callers.{runs_as}
use Rattle.mls_tables.specs.Schema.{IsMade, no_schema, with_node, with_cell, with_audit, no_others, schema, node, cell, audit, meta}
use Rattle.mls_tables.specs.Statements.{IsNext}
use Rattle.mls_tables.proofs.Texts.{MakesTable, create_node, create_node_is, create_cell, create_cell_is, create_audit, create_audit_is, create_meta, create_meta_is}
use Rattle.mls_tables.proofs.EditParts.{went, same_value}
use Rattle.mls_tables.proofs.EndLemmas.{next}
use Rattle.mls_tables.proofs.WholeSchema.{made_whole}

pub record Made (s : Schema) (table : Table) (old new : State) : Type 0 where
  pub schema_is : new.now.schema ≡ created s table
  pub empty : new.now.trees (next_tree s) ≡ []
  pub others : KeepsRows s.tables old.now.trees new.now.trees
  pub next : IsNext old new

module _ (s : Schema) (text : List ℕ) (table : Table) (makes : MakesTable s text table) (uncounted : lacks_sequence
    (created s (record table { tree = 0 })) ≡ false) where
  made : (old new : State) (count : ℕ) → old.now.schema ≡ s → Executes text [] old new (Ok count)
      → Made s (record table { tree = 0 }) old new
  made old new count has h =
      let ran = runs_as text [] old new s has CreateTable makes.0 makes.1 count h in
      let w = subst (λ t. Writes old new None CreateTable t [] count) makes.2 ran in
      let all = went w.changed in
      let first = went all.1 in
      let made = first.1 in
      let both : Ok made.table ≡ Ok (record table { tree = 0 }) = sym made.defined ∙ makes.3 in
      let same : made.table ≡ record table { tree = 0 } = cc in
      let schema_is : first.0.schema ≡ created s (record table { tree = 0 }) = made.is
      ∙ ap (λ s. created s made.table) has ∙ ap (created s) same in
      let lacks : lacks_sequence first.0.schema ≡ false = ap lacks_sequence schema_is ∙ uncounted in
      let now : new.now ≡ first.0 = ap (λ (p : Tally × Database). p.1) (same_value all.2) ∙ same_value
      (rw lacks at first.2) in
      record {
        schema_is = ap (λ (d : Database). d.schema) now ∙ schema_is;
        empty = ap (λ (d : Database). d.trees (next_tree s)) now ∙ subst (λ s. first.0.trees (next_tree s)
            ≡ []) has made.empty;
        others = subst (KeepsRows s.tables old.now.trees) (ap (λ (d : Database). d.trees) (sym now))
            (subst (λ (s : Schema). KeepsRows s.tables old.now.trees first.0.trees) has made.others);
        next = next old new CreateTable text [] count w;
      }

still_empty : (tables : List Table) (old new : Trees) → KeepsRows tables old new
    → AllByRecursion (λ t. old t.tree ≡ []) tables → AllByRecursion (λ t. new t.tree ≡ []) tables
still_empty [] old new keeps empty = tt
still_empty (t ∷ tables) old new keeps empty = (keeps.0 ∙ empty.0, still_empty tables old new keeps.1 empty.1)

module _ (old new : State) where
  pub makes_node : (r : Result ℕ Error) → IsMade no_schema old.now → Executes create_node [] old new r
      → OnOk r (IsMade with_node new.now × IsNext old new)
  makes_node (Err e) was h = tt
  makes_node (Ok count) was h =
      let it = made no_schema create_node node create_node_is refl old new count was.0 h in
      ((it.schema_is, (it.empty, tt)), it.next)

  pub makes_cell : (r : Result ℕ Error) → IsMade with_node old.now → Executes create_cell [] old new r
      → OnOk r (IsMade with_cell new.now × IsNext old new)
  makes_cell (Err e) was h = tt
  makes_cell (Ok count) was h =
      let it = made with_node create_cell cell create_cell_is refl old new count was.0 h in
      let before = still_empty with_node.tables old.now.trees new.now.trees it.others was.1 in
      ((it.schema_is, (before.0, (it.empty, tt))), it.next)

  pub makes_audit : (r : Result ℕ Error) → IsMade with_cell old.now → Executes create_audit [] old new r
      → OnOk r (IsMade with_audit new.now × IsNext old new)
  makes_audit (Err e) was h = tt
  makes_audit (Ok count) was h =
      let it = made with_cell create_audit audit create_audit_is refl old new count was.0 h in
      let before = still_empty with_cell.tables old.now.trees new.now.trees it.others was.1 in
      ((it.schema_is, (before.0, (before.1.0, (it.empty, tt)))), it.next)

  pub makes_meta : (r : Result ℕ Error) → IsMade with_audit old.now → Executes create_meta [] old new r
      → OnOk r (IsMade (schema no_others) new.now × IsNext old new)
  makes_meta (Err e) was h = tt
  makes_meta (Ok count) was h =
      let it = made with_audit create_meta meta create_meta_is refl old new count was.0 h in
      let before = still_empty with_audit.tables old.now.trees new.now.trees it.others was.1 in
      ((it.schema_is ∙ made_whole, (before.0, (before.1.0, (before.1.1.0, (it.empty, tt))))), it.next)
