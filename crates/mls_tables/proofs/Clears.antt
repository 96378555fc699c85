-- What clearing a table comes to.
use Rattle.std.proofs.Common.{◌≡◌, ℕ, List, [], ◌∷◌, map, filter, not, Bool, true, Ok, Err, Result, OnOk, refl, ap, ◌∙◌}
use Rattle.std.proofs.lemmas.Bool.{and_parts}
use Rattle.sqlite_value.specs.Order.{Row}
use Rattle.sqlite.specs.declared.error.Error.{Error}
use Rattle.sqlite.specs.Table.{Table}
use Rattle.sqlite.specs.Tree.{rowid}
use Rattle.sqlite.specs.Term.{col}
use Rattle.sqlite.specs.Query.{IsAnswer}
use Rattle.sqlite.specs.Program.{overlay}
use Rattle.sqlite.specs.Rowids.TheVariants.{Given}
use Rattle.sqlite.specs.State.{State, Executes}
use Rattle.sqlite_schema.specs.declared.schema.Keys.TheVariants.{Enforced}
use Rattle.sqlite_trees.specs.View.{is_int}
use Rattle.sqlite_rules.specs.Edit.{Applies, edit_of}
use Rattle.sqlite_rules.specs.Calls.{ids_of}
use Rattle.mls_tables.specs.Schema.{schema, node, cell, audit, meta}
use Rattle.mls_tables.specs.Rows.{node_of, is_node_row, cell_of, is_cell_row, audit_of, is_audit_row, meta_of, is_meta_row, tables_of}
use Rattle.mls_tables.specs.Statements.{IsSchemaReady, IsNext, AreRows, Changes, ClearsNodes, ClearsCells, ClearsEntries, ClearsMeta}
use Rattle.mls_tables.proofs.Texts.{every, clear_nodes, clear_nodes_is, clear_cells, clear_cells_is, clear_entries, clear_entries_is, clear_meta, clear_meta_is}
use Rattle.mls_tables.proofs.PlainWrites.{drops}
use Rattle.mls_tables.proofs.QueryAnswers.{passes, answered}
use Rattle.mls_tables.proofs.TableEdits.{dropped}
use Rattle.mls_tables.proofs.SchemaLemmas.{at_rest}
use Rattle.mls_tables.proofs.ReadyLemmas.{nodes_changed, cells_changed, audit_changed, meta_changed}

none_left : {X : Type 0} (xs : List X) → filter (λ x. not true) xs ≡ []
none_left [] = refl
none_left (x ∷ xs) = none_left xs

module _ (old new : State) (ready : IsSchemaReady old.now) where
  -- the rows that a statement shows are taken out of their table
  abbrev TakesOut : Table → Row → Type 0
  TakesOut table params =
      (new.now.schema ≡ schema ready.0.others) × (rows : List Row) × IsAnswer (every table.tree)
      (overlay old.now.trees []) params rows × Applies (schema ready.0.others) Enforced old.now.trees
      (edit_of old.now.trees table (ids_of rows) Given 0 []) new.now.trees × IsNext old new

  cleared : {X : Type 0} (is_row : Row → Bool) (read : Row → X) (table : Table) → ((r : Row) → is_row r ≡ true
      → is_int (rowid r) ≡ true) → overlay old.now.trees [] table.tree ≡ old.now.trees table.tree
      → AreRows is_row (old.now.trees table.tree) → TakesOut table [] → AreRows is_row (new.now.trees table.tree)
      × (map read (new.now.trees table.tree) ≡ [])
  cleared is_row read table ids plain are did =
      let left = dropped is_row read (schema ready.0.others) old.now.trees new.now.trees table are ids (passes [] [])
      (λ x. true) (λ r h. refl) did.1
      (answered table.tree [] (col 1 0 ∷ []) [] old.now.trees [] did.1 plain did.2) did.3 in
      (left.0, left.1 ∙ none_left (map read (old.now.trees table.tree)))

  nodes_cleared : TakesOut node [] → Changes ClearsNodes old new
  nodes_cleared did =
      let left = cleared is_node_row node_of node (λ r h. (and_parts _ _ h).0) refl ready.1.0 did in
      let all = nodes_changed old.now new.now ready did.0 left.0 did.3.tables in
      record {
        ready = all.0;
        rows = all.1 ∙ ap (λ ns. record (tables_of old.now.trees) { nodes = ns }) left.1;
        next =
            did.4;
      }

  pub clears_nodes : (r : Result ℕ Error) → Executes clear_nodes [] old new r → OnOk r (Changes ClearsNodes old new)
  clears_nodes (Err e) h = tt
  clears_nodes (Ok count) h = nodes_cleared (drops old new (schema ready.0.others) ready.0.is clear_nodes 0 node refl
      (at_rest ready.0.others ready.0.apart node.tree) [] count h (every 0) (clear_nodes_is ready.0.others))

  cells_cleared : TakesOut cell [] → Changes ClearsCells old new
  cells_cleared did =
      let left = cleared is_cell_row cell_of cell (λ r h. (and_parts _ _ h).0) refl ready.1.1.0 did in
      let all = cells_changed old.now new.now ready did.0 left.0 did.3.tables in
      record {
        ready = all.0;
        rows = all.1 ∙ ap (λ cs. record (tables_of old.now.trees) { cells = cs }) left.1;
        next =
            did.4;
      }

  pub clears_cells : (r : Result ℕ Error) → Executes clear_cells [] old new r → OnOk r (Changes ClearsCells old new)
  clears_cells (Err e) h = tt
  clears_cells (Ok count) h = cells_cleared (drops old new (schema ready.0.others) ready.0.is clear_cells 1 cell refl
      (at_rest ready.0.others ready.0.apart cell.tree) [] count h (every 2) (clear_cells_is ready.0.others))

  entries_cleared : TakesOut audit [] → Changes ClearsEntries old new
  entries_cleared did =
      let left = cleared is_audit_row audit_of audit (λ r h. (and_parts _ _ h).0) refl ready.1.1.1.0 did in
      let all = audit_changed old.now new.now ready did.0 left.0 did.3.tables in
      record {
        ready = all.0;
        rows = all.1 ∙ ap (λ es. record (tables_of old.now.trees) { audit = es }) left.1;
        next =
            did.4;
      }

  pub clears_entries : (r : Result ℕ Error) → Executes clear_entries [] old new r
      → OnOk r (Changes ClearsEntries old new)
  clears_entries (Err e) h = tt
  clears_entries (Ok count) h = entries_cleared
      (drops old new (schema ready.0.others) ready.0.is clear_entries 2 audit refl
      (at_rest ready.0.others ready.0.apart audit.tree) [] count h (every 4) (clear_entries_is ready.0.others))

  meta_cleared : TakesOut meta [] → Changes ClearsMeta old new
  meta_cleared did =
      let left = cleared is_meta_row meta_of meta (λ r h. (and_parts _ _ h).0) refl ready.1.1.1.1 did in
      let all = meta_changed old.now new.now ready did.0 left.0 did.3.tables in
      record {
        ready = all.0;
        rows = all.1 ∙ ap (λ ms. record (tables_of old.now.trees) { meta = ms }) left.1;
        next =
            did.4;
      }

  pub clears_meta : (r : Result ℕ Error) → Executes clear_meta [] old new r → OnOk r (Changes ClearsMeta old new)
  clears_meta (Err e) h = tt
  clears_meta (Ok count) h = meta_cleared (drops old new (schema ready.0.others) ready.0.is clear_meta 3 meta refl
      (at_rest ready.0.others ready.0.apart meta.tree) [] count h (every 5) (clear_meta_is ready.0.others))
