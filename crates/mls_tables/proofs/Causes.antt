-- Why the statements on rows fail, each by its text.
use Rattle.std.proofs.Common.{inl, inr, ℕ, pos, List, [], ◌∷◌, length, Result, IsTrue, IfErr, refl, sym, subst}
use Rattle.sqlite.specs.declared.types.Value.TheVariants.{Int, Text}
use Rattle.sqlite.specs.declared.error.Error.{Error}
use Rattle.sqlite.specs.Term.{col}
use Rattle.sqlite.specs.Command.TheVariants.{Insert, Delete, Update}
use Rattle.sqlite.specs.Source.TheVariants.{Values}
use Rattle.sqlite.specs.State.{State, Executes}
use Rattle.mls_tables.specs.declared.rows.NodeRow.{NodeRow}
use Rattle.mls_tables.specs.declared.rows.CellRow.{CellRow}
use Rattle.mls_tables.specs.declared.rows.OwnCell.{OwnCell}
use Rattle.mls_tables.specs.declared.rows.AuditRow.{AuditRow}
use Rattle.mls_tables.specs.declared.rows.TupleKey.{TupleKey}
use Rattle.mls_tables.specs.Schema.{node, cell, audit, meta, schema}
use Rattle.mls_tables.specs.Rows.{class_values, own_values}
use Rattle.mls_tables.specs.Statements.{IsSchemaReady, IsOfRun}
use Rattle.mls_tables.proofs.EditParts.{alone}
use Rattle.mls_tables.proofs.QueryAnswers.{rows_by}
use Rattle.mls_tables.proofs.RowValues.{node_values, cell_values, audit_values}
use Rattle.mls_tables.proofs.Texts.{AddsOwn, Takes, own_terms, node_terms, cell_terms, audit_terms, meta_terms, by_class, by_cell, set_terms, every, add_node, add_node_is, add_node_takes, add_cell, add_cell_is, add_cell_takes, add_entry, add_entry_is, add_entry_takes, add_meta, add_meta_is, add_meta_takes, drop_node, drop_node_is, drop_node_takes, drop_cells, drop_cells_is, drop_cells_takes, set_cell, set_cell_is, set_cell_takes, clear_nodes, clear_nodes_is, clear_nodes_takes, clear_cells, clear_cells_is, clear_cells_takes, clear_entries, clear_entries_is, clear_entries_takes, clear_meta, clear_meta_is, clear_meta_takes}
use Rattle.mls_tables.proofs.RefusalLemmas.{caused, own_length}

module _ (old new : State) (r : Result ℕ Error) (ready : IsTrue old.is_open → IsSchemaReady old.now) where
  pub add_node_fails : (n : NodeRow) → Executes add_node (node_values n) old new r → IfErr r IsOfRun
  add_node_fails n h = caused old new add_node 0 node (node_values n) (Insert 0 (Values node_terms 6))
      (inl (node_terms, 6, refl)) (λ o. refl) add_node_is add_node_takes r ready h

  pub add_cell_fails : (c : CellRow) → Executes add_cell (cell_values c) old new r → IfErr r IsOfRun
  add_cell_fails c h = caused old new add_cell 1 cell (cell_values c) (Insert 1 (Values cell_terms 7))
      (inl (cell_terms, 7, refl)) (λ o. refl) add_cell_is add_cell_takes r ready h

  pub add_entry_fails : (a : AuditRow) → Executes add_entry (audit_values a) old new r → IfErr r IsOfRun
  add_entry_fails a h = caused old new add_entry 2 audit (audit_values a) (Insert 2 (Values audit_terms 3))
      (inl (audit_terms, 3, refl)) (λ o. refl) add_entry_is add_entry_takes r ready h

  pub add_meta_fails : (version : ℕ) (lattice schemes : List ℕ) → Executes add_meta (Int (pos version) ∷ Text lattice
      ∷ Text schemes ∷ []) old new r → IfErr r IsOfRun
  add_meta_fails version lattice schemes h = caused old new add_meta 3 meta (Int (pos version) ∷ Text lattice
      ∷ Text schemes ∷ []) (Insert 3 (Values meta_terms 5)) (inl (meta_terms, 5, refl))
      (λ o. refl) add_meta_is add_meta_takes r ready h

  pub drop_node_fails : (k : TupleKey) → Executes drop_node (class_values k) old new r → IfErr r IsOfRun
  drop_node_fails k h = caused old new drop_node 0 node (class_values k)
      (Delete 0 (alone (rows_by 0 by_class (col 1 0 ∷ [])))) (inr (inl (
        alone (rows_by 0 by_class (col 1 0 ∷ [])),
        refl,
      ))) (λ o. refl) drop_node_is drop_node_takes r ready h

  pub drop_cells_fails : (k : TupleKey) → Executes drop_cells (class_values k) old new r → IfErr r IsOfRun
  drop_cells_fails k h = caused old new drop_cells 1 cell (class_values k)
      (Delete 1 (alone (rows_by 2 by_class (col 1 0 ∷ [])))) (inr (inl (
        alone (rows_by 2 by_class (col 1 0 ∷ [])),
        refl,
      ))) (λ o. refl) drop_cells_is drop_cells_takes r ready h

  pub set_cell_fails : (c : CellRow) → Executes set_cell (cell_values c) old new r → IfErr r IsOfRun
  set_cell_fails c h = caused old new set_cell 1 cell (cell_values c) (Update 1 (alone (rows_by 2 by_cell set_terms)))
      (inr (inr (alone (rows_by 2 by_cell set_terms), refl))) (λ o. refl) set_cell_is set_cell_takes r ready h

  pub clear_nodes_fails : Executes clear_nodes [] old new r → IfErr r IsOfRun
  clear_nodes_fails h = caused old new clear_nodes 0 node [] (Delete 0 (alone (every 0)))
      (inr (inl (alone (every 0), refl))) (λ o. refl) clear_nodes_is clear_nodes_takes r ready h

  pub clear_cells_fails : Executes clear_cells [] old new r → IfErr r IsOfRun
  clear_cells_fails h = caused old new clear_cells 1 cell [] (Delete 1 (alone (every 2)))
      (inr (inl (alone (every 2), refl))) (λ o. refl) clear_cells_is clear_cells_takes r ready h

  pub clear_entries_fails : Executes clear_entries [] old new r → IfErr r IsOfRun
  clear_entries_fails h = caused old new clear_entries 2 audit [] (Delete 2 (alone (every 4)))
      (inr (inl (alone (every 4), refl))) (λ o. refl) clear_entries_is clear_entries_takes r ready h

  pub clear_meta_fails : Executes clear_meta [] old new r → IfErr r IsOfRun
  clear_meta_fails h = caused old new clear_meta 3 meta [] (Delete 3 (alone (every 5)))
      (inr (inl (alone (every 5), refl))) (λ o. refl) clear_meta_is clear_meta_takes r ready h

  pub add_own_fails : (n : NodeRow) (cs : List OwnCell) (text : List ℕ) → AddsOwn text (length cs)
      → Executes text (own_values n cs) old new r → IfErr r IsOfRun
  add_own_fails n cs text means h =
      caused old new text 1 cell (own_values n cs) (Insert 1 (Values (own_terms 4 (length cs)) 7))
      (inl (own_terms 4 (length cs), 7, refl)) (λ o. refl) (λ o. (means.0 o).0)
      (λ o. subst (λ k. Takes k (schema o) text) (sym (own_length n cs)) (means.0 o).1) r ready h
