-- The four tables after one of them has changed.
use Rattle.std.proofs.Common.{◌≡◌, ◌≢◌, ℕ, map, refl}
use Rattle.std.specs.List.{AllByRecursion}
use Rattle.sqlite.specs.Effect.{Database}
use Rattle.mls_tables.specs.Schema.{HasTables, schema}
use Rattle.mls_tables.specs.Rows.{tables_of, node_of, cell_of, audit_of, meta_of, is_node_row, is_cell_row, is_audit_row, is_meta_row}
use Rattle.mls_tables.specs.Statements.{IsSchemaReady, AreRows}

module _ (old new : Database) (ready : IsSchemaReady old) (is : new.schema ≡ schema ready.0.others) where
  here : HasTables new.schema
  here = record { others = ready.0.others; apart = ready.0.apart; is = is }

  -- each table but the one of this tree is as it was
  abbrev KeepsOthers : ℕ → Type 0
  KeepsOthers tree = AllByRecursion (λ t. t.tree ≢ tree → new.trees t.tree ≡ old.trees t.tree)
      (schema ready.0.others).tables

  pub nodes_changed : AreRows is_node_row (new.trees 0) → KeepsOthers 0
      → IsSchemaReady new × (tables_of new.trees ≡ record (tables_of old.trees) { nodes = map node_of (new.trees 0) })
  nodes_changed rows keeps =
      let cells : new.trees 2 ≡ old.trees 2 = keeps.1.0 (λ e. cc) in
      let audit : new.trees 4 ≡ old.trees 4 = keeps.1.1.0 (λ e. cc) in
      let meta : new.trees 5 ≡ old.trees 5 = keeps.1.1.1.0 (λ e. cc) in (
        (here, (rows, (rw cells ready.1.1.0, (rw audit ready.1.1.1.0, rw meta ready.1.1.1.1)))),
        rw (cells, audit, meta) refl,
      )

  pub cells_changed : AreRows is_cell_row (new.trees 2) → KeepsOthers 2
      → IsSchemaReady new × (tables_of new.trees ≡ record (tables_of old.trees) { cells = map cell_of (new.trees 2) })
  cells_changed rows keeps =
      let nodes : new.trees 0 ≡ old.trees 0 = keeps.0 (λ e. cc) in
      let audit : new.trees 4 ≡ old.trees 4 = keeps.1.1.0 (λ e. cc) in
      let meta : new.trees 5 ≡ old.trees 5 = keeps.1.1.1.0 (λ e. cc) in (
        (here, (rw nodes ready.1.0, (rows, (rw audit ready.1.1.1.0, rw meta ready.1.1.1.1)))),
        rw (nodes, audit, meta) refl,
      )

  pub audit_changed : AreRows is_audit_row (new.trees 4) → KeepsOthers 4
      → IsSchemaReady new × (tables_of new.trees ≡ record (tables_of old.trees) { audit = map audit_of (new.trees 4) })
  audit_changed rows keeps =
      let nodes : new.trees 0 ≡ old.trees 0 = keeps.0 (λ e. cc) in
      let cells : new.trees 2 ≡ old.trees 2 = keeps.1.0 (λ e. cc) in
      let meta : new.trees 5 ≡ old.trees 5 = keeps.1.1.1.0 (λ e. cc) in (
        (here, (rw nodes ready.1.0, (rw cells ready.1.1.0, (rows, rw meta ready.1.1.1.1)))),
        rw (nodes, cells, meta) refl,
      )

  pub meta_changed : AreRows is_meta_row (new.trees 5) → KeepsOthers 5
      → IsSchemaReady new × (tables_of new.trees ≡ record (tables_of old.trees) { meta = map meta_of (new.trees 5) })
  meta_changed rows keeps =
      let nodes : new.trees 0 ≡ old.trees 0 = keeps.0 (λ e. cc) in
      let cells : new.trees 2 ≡ old.trees 2 = keeps.1.0 (λ e. cc) in
      let audit : new.trees 4 ≡ old.trees 4 = keeps.1.1.0 (λ e. cc) in (
        (here, (rw nodes ready.1.0, (rw cells ready.1.1.0, (rw audit ready.1.1.1.0, rows)))),
        rw (nodes, cells, audit) refl,
      )
