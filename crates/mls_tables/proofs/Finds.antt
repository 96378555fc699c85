-- What the queries find.
use Rattle.std.proofs.Common.{◌≡◌, inl, inr, ℕ, List, [], ◌∷◌, map, filter, Ok, Err, Result, IfOk, IfErr, Vec, Bool, true, true≢false, ◌∙◌, length, refl, sym, ap, subst, IsPermutation}
use Rattle.std.specs.List.{AllByRecursion}
use Rattle.std.specs.declared.alloc.Global.{Global}
use Rattle.std.proofs.lemmas.Bool.{cases_Bool}
use Rattle.sqlite_trees.proofs.ListLemmas.{all_of, all_weaker, all-map, all-filter, all-permutation}
use Rattle.sqlite.specs.Query.{Query}
use Rattle.sqlite_value.specs.Order.{Row}
use Rattle.sqlite.specs.declared.types.Value.TheVariants.{Null}
use Rattle.sqlite.specs.declared.error.Error.{Error}
use Rattle.sqlite.specs.Term.{Term, col, eval_all}
use Rattle.sqlite.specs.Command.TheVariants.{Select}
use Rattle.sqlite.specs.Listing.{understood}
use Rattle.sqlite.specs.State.{State, HasCleanDisk, IsUnchanged, Shown}
use Rattle.sqlite.specs.Program.{overlay}
use Rattle.sqlite_value.specs.declared.keys.Key.{Key}
use Rattle.sqlite_value.specs.Keys.{ascending}
use Rattle.sqlite.specs.Collation.TheVariants.{Binary}
use Rattle.sqlite.proofs.Callers.{IsPlain, reads_as}
use Rattle.mls_tables.specs.declared.rows.NodeRow.{NodeRow}
use Rattle.mls_tables.specs.declared.rows.CellRow.{CellRow}
use Rattle.mls_tables.specs.declared.rows.AuditRow.{AuditRow}
use Rattle.mls_tables.specs.Schema.{Others, HasTables, schema}
use Rattle.mls_tables.specs.Rows.{tables_of, meta_columns, node_of, is_node_row, shown_node, shows_node, cell_of, is_cell_row, shown_cell, shows_cell, audit_columns, audit_of, is_audit_row, shown_entry, shows_entry}
use Rattle.mls_tables.specs.Adopting.{ReadsNode, ReadsCell, ReadsEntry, ShowsSome, FailsToShow}
use Rattle.mls_tables.specs.Statements.{IsSchemaReady, IsQuery, FitsNode, FitsCell, AreInRange, is_of_run}
use Rattle.mls_tables.proofs.RowValues.{node_values, cell_values, audit_values}
use Rattle.mls_tables.proofs.EditParts.{alone}
use Rattle.mls_tables.proofs.EndLemmas.{fails_ended, shown_open, shown_unchanged}
use Rattle.mls_tables.proofs.QueryAnswers.{rows_by, rows_sorted, passes, answered}
use Rattle.mls_tables.proofs.TableRows.{answers, read_back, shown}
use Rattle.mls_tables.proofs.ValueTests.{node_shows, cell_shows, entry_shows}
use Rattle.mls_tables.proofs.RefusalLemmas.{query_caused, rows_caused}
use Rattle.mls_tables.proofs.Texts.{Asks, Takes, node_names, node_shown, cell_names, cell_shown, audit_names, audit_shown, meta_names, all_entries, all_entries_is, all_entries_takes, all_meta, all_meta_is}

module _ (old new : State) (o : Others) (sql : List ℕ) (params : Row) (tree : ℕ) (terms project : List Term)
    (names : List (List ℕ))
    (order : List (Term × Key)) (asks : Asks (schema o) sql
    (Select (alone (rows_sorted tree terms project order)) names)) (plain : overlay old.now.trees [] tree
    ≡ old.now.trees tree)
    (has : old.now.schema ≡ schema o) where
  pub found : (rows : List Row) → Shown sql params old new rows
      → IsPermutation (map (λ r. eval_all project (params ∷ r ∷ [])) (filter (passes terms params)
      (old.now.trees tree))) rows
  found rows h = answered tree terms project order old.now.trees params rows plain
      ((reads_as sql params old new (schema o) has _ asks.0 asks.1 asks.2 rows h).answer Null)

-- ---- a query, by what its rows show

module _ {X : Type 0} (old new : State) (show : Row → X) (shows : Row → Bool) (Reads : Row → Type 0) (sql : List ℕ)
    (params : Row) (q : Query) (names : List (List ℕ)) (asks : (o : Others)
    → Asks (schema o) sql (Select (alone q) names))
    (takes : (o : Others) → Takes (length params) (schema o) sql) (reads : IsSchemaReady old.now
    → AreInRange (tables_of old.now.trees) → (given : List Row) → Shown sql params old new given
    → AllByRecursion Reads given)
    (Finds : List X → Type 0) (finds : IsSchemaReady old.now → (given : List Row) → Shown sql params old new given
    → Finds (map show given)) where
  stays : IsSchemaReady old.now → (given : List Row) → Shown sql params old new given → IsUnchanged old new
  stays ready given h = shown_unchanged sql params old new given (subst (λ s. IsPlain (understood s sql))
      (sym ready.0.is) (asks ready.0.others).1) h

  pub query : (r : Result (Vec X Global) Error) → (HasCleanDisk new → HasCleanDisk old)
      → (HasCleanDisk new → IfOk r (λ xs. ShowsSome show shows sql params old new xs.items))
      → (HasCleanDisk new → IfErr r (FailsToShow Reads sql params old new)) → IsQuery Finds sql params old new r
  query (Ok xs) clean shown refused = record {
    clean = clean;
    was_open = λ now. let h = shown now in shown_open old new sql params h.0 h.1;
    found = λ now ready. let h = shown now in subst Finds (sym h.2) (finds ready h.0 h.1);
    same = λ now ready. let h = shown now in stays ready h.0 h.1;
    cause = λ now ready. tt;
    err = λ now ready. tt;
    stopped = λ now ready. tt;
  }
  query (Err e) clean shown refused = record {
    clean = clean;
    was_open = λ now. tt;
    found = λ now ready. tt;
    same = λ now ready. tt;
    cause = λ now ready. elim (refused now) [
      | inl fails ↦ inl (query_caused old new sql params (alone q) names asks takes e ready fails)
      | inr h ↦ elim (cases_Bool (is_of_run e)) [
        | inl run ↦ inl run
        | inr other ↦ inr (λ fit. true≢false (sym
            (rows_caused e h.2 (reads (ready (shown_open old new sql params h.0 h.1)) fit h.0 h.1)) ∙ other))
      ]
    ];
    err = λ now ready. elim (refused now) [
      | inl fails ↦ fails_ended old new sql params e fails
      | inr h ↦ inl
          (stays (ready (shown_open old new sql params h.0 h.1)) h.0 h.1)
    ];
    stopped = λ now ready other. elim (refused now) [
      | inl fails ↦ inl fails
      | inr h ↦ inr
          (λ fit. h.2 other (reads (ready (shown_open old new sql params h.0 h.1)) fit h.0 h.1))
    ];
  }

node_reads : (n : NodeRow) → FitsNode n → ReadsNode (node_values n)
node_reads n fit = (
  (n.rel, refl, fit.0),
  ((n.ent, refl), ((n.kclass, refl, fit.1.0), ((n.label, refl, fit.1.1), (n.pattern, refl)))),
)

cell_reads : (c : CellRow) → FitsCell c → ReadsCell (cell_values c)
cell_reads c fit = (
  (c.rel, refl, fit.0),
  (
    (c.ent, refl),
    (
      (c.kclass, refl, fit.1.0),
      (
        (c.label, refl, fit.1.1.0),
        (
          (c.attr, refl, fit.1.1.1),
          (c.value, refl),
        ),
      ),
    ),
  ),
)

entry_reads : (a : AuditRow) → ReadsEntry (audit_values a)
entry_reads a = ((a.number, refl), (a.bytes, refl))

module _ (old new : State) (sql : List ℕ) (params : Row) (terms : List Term) where
  pub finds_nodes : (q : NodeRow → Bool) → ((r : Row) → is_node_row r ≡ true → passes terms params r ≡ q (node_of r))
      → ((o : Others) → Asks (schema o) sql (Select (alone (rows_by 0 terms node_shown)) node_names))
      → ((o : Others) → Takes (length params) (schema o) sql)
      → (r : Result (Vec NodeRow Global) Error) → (HasCleanDisk new → HasCleanDisk old)
      → (HasCleanDisk new → IfOk r (λ xs. ShowsSome shown_node shows_node sql params old new xs.items))
      → (HasCleanDisk new → IfErr r (FailsToShow ReadsNode sql params old new))
      → IsQuery (IsPermutation (filter q (tables_of old.now.trees).nodes)) sql params old new r
  finds_nodes q tests asks takes =
      let nodes = filter q (tables_of old.now.trees).nodes in
      let shows : IsSchemaReady old.now → (given : List Row) → Shown sql params old new given
      → IsPermutation (map node_values nodes) given =
      λ ready given h. answers is_node_row node_of (passes terms params) q _ node_values tests (node_shows params)
      (old.now.trees 0) given ready.1.0.1
      (found old new ready.0.others sql params 0 terms node_shown node_names []
      (asks ready.0.others) refl ready.0.is given h) in
      query old new shown_node shows_node ReadsNode sql params (rows_by 0 terms node_shown) node_names asks takes
      (λ ready fit given h. all-permutation ReadsNode (map node_values nodes) given (shows ready given h)
      (all-map ReadsNode node_values nodes (all_weaker FitsNode (λ x. ReadsNode (node_values x)) node_reads nodes
      (all-filter FitsNode q (tables_of old.now.trees).nodes fit.0))))
      (IsPermutation nodes) (λ ready given h. read_back node_values shown_node (λ x. refl) nodes given
      (shows ready given h))

  pub finds_cells : (q : CellRow → Bool) → ((r : Row) → is_cell_row r ≡ true → passes terms params r ≡ q (cell_of r))
      → ((o : Others) → Asks (schema o) sql (Select (alone (rows_by 2 terms cell_shown)) cell_names))
      → ((o : Others) → Takes (length params) (schema o) sql)
      → (r : Result (Vec CellRow Global) Error) → (HasCleanDisk new → HasCleanDisk old)
      → (HasCleanDisk new → IfOk r (λ xs. ShowsSome shown_cell shows_cell sql params old new xs.items))
      → (HasCleanDisk new → IfErr r (FailsToShow ReadsCell sql params old new))
      → IsQuery (IsPermutation (filter q (tables_of old.now.trees).cells)) sql params old new r
  finds_cells q tests asks takes =
      let cells = filter q (tables_of old.now.trees).cells in
      let shows : IsSchemaReady old.now → (given : List Row) → Shown sql params old new given
      → IsPermutation (map cell_values cells) given =
      λ ready given h. answers is_cell_row cell_of (passes terms params) q _ cell_values tests (cell_shows params)
      (old.now.trees 2) given ready.1.1.0.1
      (found old new ready.0.others sql params 2 terms cell_shown cell_names []
      (asks ready.0.others) refl ready.0.is given h) in
      query old new shown_cell shows_cell ReadsCell sql params (rows_by 2 terms cell_shown) cell_names asks takes
      (λ ready fit given h. all-permutation ReadsCell (map cell_values cells) given (shows ready given h)
      (all-map ReadsCell cell_values cells (all_weaker FitsCell (λ x. ReadsCell (cell_values x)) cell_reads cells
      (all-filter FitsCell q (tables_of old.now.trees).cells fit.1))))
      (IsPermutation cells) (λ ready given h. read_back cell_values shown_cell (λ x. refl) cells given
      (shows ready given h))

-- ---- whole tables, where only the schema is known

abbrev pub by_rowid : List (Term × Key)
by_rowid = (col 1 0, ascending Binary) ∷ []

whole : (rows : List Row) (p : Row → Bool) → ((r : Row) → p r ≡ true) → filter p rows ≡ rows
whole [] p each = refl
whole (r ∷ rows) p each = rw (each r) (ap (λ rs. r ∷ rs) (whole rows p each))

module _ (old new : State) (has : HasTables old.now.schema) where
  module _ (sql : List ℕ) (tree : ℕ) (project : List Term) (names : List (List ℕ)) (order : List (Term × Key))
      (asks : Asks (schema has.others) sql (Select (alone (rows_sorted tree [] project order)) names))
      (plain : overlay old.now.trees [] tree ≡ old.now.trees tree) where
    pub shows_all : (rows : List Row) → Shown sql [] old new rows
        → IsPermutation (map (λ r. eval_all project ([] ∷ r ∷ [])) (old.now.trees tree)) rows
    shows_all rows h =
        subst (λ some. IsPermutation (map (λ r. eval_all project ([] ∷ r ∷ [])) some) rows) (whole (old.now.trees tree)
        (passes [] []) (λ r. refl))
        (found old new has.others sql [] tree [] project names order asks plain has.is rows h)

  pub finds_meta : (rows : List Row) → Shown all_meta [] old new rows
      → IsPermutation (map meta_columns (old.now.trees 5)) rows
  finds_meta = shows_all all_meta 5 (col 1 0 ∷ col 1 2 ∷ col 1 3 ∷ col 1 4 ∷ []) meta_names []
      (all_meta_is has.others) refl

pub finds_entries : (old new : State) (r : Result (Vec AuditRow Global) Error) → (HasCleanDisk new → HasCleanDisk old)
    → (HasCleanDisk new → IfOk r (λ xs. ShowsSome shown_entry shows_entry all_entries [] old new xs.items))
    → (HasCleanDisk new → IfErr r (FailsToShow ReadsEntry all_entries [] old new))
    → IsQuery (IsPermutation (tables_of old.now.trees).audit) all_entries [] old new r
finds_entries old new =
    let entries = (tables_of old.now.trees).audit in
    let shows : IsSchemaReady old.now → (given : List Row) → Shown all_entries [] old new given
    → IsPermutation (map audit_values entries) given =
    λ ready given h. subst (λ xs. IsPermutation xs given) (shown is_audit_row audit_of audit_columns audit_values
    (entry_shows []) (old.now.trees 4) ready.1.1.1.0.1)
    (shows_all old new ready.0 all_entries 4 audit_shown audit_names by_rowid
    (all_entries_is ready.0.others) refl given h) in
    query old new shown_entry shows_entry ReadsEntry all_entries []
    (rows_sorted 4 [] audit_shown by_rowid) audit_names all_entries_is all_entries_takes
    (λ ready fit given h. all-permutation ReadsEntry (map audit_values entries) given (shows ready given h)
    (all-map ReadsEntry audit_values entries (all_of (λ a. ReadsEntry (audit_values a)) entry_reads entries)))
    (IsPermutation entries) (λ ready given h. read_back audit_values shown_entry (λ x. refl) entries given
    (shows ready given h))
