-- What a plain write that was run comes to, whatever its text: one edit of its table, and the connection's next state.
use Rattle.std.proofs.Common.{◌≡◌, ℕ, ◌/◌, List, [], length, slice_get, Some, None, Ok, subst}
use Rattle.sqlite_value.specs.Order.{Row}
use Rattle.sqlite.specs.Table.{Table}
use Rattle.sqlite.specs.Schema.{Schema}
use Rattle.sqlite.specs.Term.{Term}
use Rattle.sqlite.specs.Query.{Query, IsAnswer}
use Rattle.sqlite.specs.Program.{overlay}
use Rattle.sqlite.specs.Command.TheVariants.{Insert, Update, Delete}
use Rattle.sqlite.specs.Source.TheVariants.{Values}
use Rattle.sqlite.specs.Rowids.TheVariants.{Chosen, Given}
use Rattle.sqlite.specs.Edit.{edit_of, Applies}
use Rattle.sqlite.specs.Effect.{value_rows}
use Rattle.sqlite.specs.Rows.{stamped}
use Rattle.sqlite.specs.Does.{Does}
use Rattle.sqlite.specs.Listing.{understood}
use Rattle.sqlite.specs.State.{State, mode_of, Executes}
use Rattle.sqlite.proofs.Callers.{statement_of, runs_as}
use Rattle.sqlite_schema.specs.declared.schema.Keys.TheVariants.{Enforced}
use Rattle.sqlite_rules.specs.Calls.{ids_of}
use Rattle.sqlite_rules.specs.Action.{works}
use Rattle.mls_tables.specs.Statements.{IsNext}
use Rattle.mls_tables.proofs.EditParts.{plainly, alone, inserted, deleted, updated}
use Rattle.mls_tables.proofs.Texts.{Means}
use Rattle.mls_tables.proofs.EndLemmas.{next}

module _ (old new : State) (schema : Schema) (has : old.now.schema ≡ schema) (sql : List ℕ) (at : ℕ) (bare : Table)
    (there : slice_get schema.tables at ≡ Some (plainly bare))
    (quiet : (olds news : List Row) → works schema Enforced 0 bare.tree olds news ≡ []) (params : Row) (count : ℕ)
    (ran : Executes sql params old new (Ok count)) where
  pub adds : (terms : List Term) (width : ℕ) → Means schema sql (Insert at (Values terms width))
      → (new.now.schema ≡ schema) × Applies schema Enforced old.now.trees
      (edit_of old.now.trees (plainly bare) [] Chosen 0 (value_rows (stamped (plainly bare) params) width
      (length terms / width) terms)) new.now.trees × IsNext old new
  adds terms width means =
      let command = Insert at (Values terms width) in
      let w = runs_as sql params old new schema has command means.0 means.1 count ran in
      let text = statement_of sql (understood schema sql) in
      let did = inserted schema at bare there quiet old.step_limit params old.now.trees text w.tally new.now terms width
      (subst (λ s. Does old.step_limit (mode_of old) params (record old.now { schema = s }) text None command
      (Ok (w.tally, new.now))) has w.changed) in
      (did.0, did.1, next old new command text params count w)

  pub drops : (q : Query) → Means schema sql (Delete at (alone q))
      → (new.now.schema ≡ schema) × (rows : List Row) × IsAnswer q (overlay old.now.trees []) params rows
      × Applies schema Enforced old.now.trees (edit_of old.now.trees (plainly bare)
      (ids_of rows) Given 0 []) new.now.trees × IsNext old new
  drops q means =
      let command = Delete at (alone q) in
      let w = runs_as sql params old new schema has command means.0 means.1 count ran in
      let text = statement_of sql (understood schema sql) in
      let did = deleted schema at bare there quiet old.step_limit params old.now.trees text w.tally new.now q
      (subst (λ s. Does old.step_limit (mode_of old) params (record old.now { schema = s }) text None command
      (Ok (w.tally, new.now))) has w.changed) in
      (did.0, did.1, did.2, did.3, next old new command text params count w)

  pub sets : (q : Query) → Means schema sql (Update at (alone q))
      → (new.now.schema ≡ schema) × (rows : List Row) × IsAnswer q (overlay old.now.trees []) params rows
      × Applies schema Enforced old.now.trees (edit_of old.now.trees (plainly bare)
      (ids_of rows) Given 1 rows) new.now.trees × IsNext old new
  sets q means =
      let command = Update at (alone q) in
      let w = runs_as sql params old new schema has command means.0 means.1 count ran in
      let text = statement_of sql (understood schema sql) in
      let did = updated schema at bare there quiet old.step_limit params old.now.trees text w.tally new.now q
      (subst (λ s. Does old.step_limit (mode_of old) params (record old.now { schema = s }) text None command
      (Ok (w.tally, new.now))) has w.changed) in
      (did.0, did.1, did.2, did.3, next old new command text params count w)
