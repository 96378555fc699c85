-- What dropping rows comes to, and what setting a cell does.
use Rattle.std.proofs.Common.{◌≡◌, inl, inr, ℕ, pos, List, [], ◌∷◌, map, filter, Bool, true, nat_eq, Ok, Err, Result, OnOk, refl, sym, ap, subst, ◌∙◌, IsPermutation, arith}
use Rattle.std.specs.List.{AllByRecursion}
use Rattle.std.proofs.lemmas.Bool.{and_parts, cases_Bool}
use Rattle.std.proofs.lemmas.Bool.Decides.{nat_tests}
use Rattle.std.proofs.lemmas.Slice.Eq.{bytes_eq-Decides}
use Rattle.sqlite_value.specs.Order.{Row, column}
use Rattle.sqlite.specs.declared.types.Value.TheVariants.{Int, Blob}
use Rattle.sqlite.specs.declared.error.Error.{Error}
use Rattle.sqlite.specs.Table.{Table}
use Rattle.sqlite.specs.Tree.{rowid}
use Rattle.sqlite.specs.Term.{col, eval_all}
use Rattle.sqlite.specs.Query.{Query, IsAnswer}
use Rattle.sqlite.specs.Program.{overlay}
use Rattle.sqlite.specs.Rowids.TheVariants.{Given}
use Rattle.sqlite.specs.State.{State, Executes}
use Rattle.sqlite.proofs.Callers.{one_permutation}
use Rattle.sqlite_schema.specs.declared.schema.Keys.TheVariants.{Enforced}
use Rattle.sqlite_trees.specs.View.{is_int}
use Rattle.sqlite_trees.proofs.ListLemmas.{all-filter}
use Rattle.sqlite_rules.specs.Edit.{Applies, edit_of, id_in}
use Rattle.sqlite_rules.specs.Calls.{ids_of}
use Rattle.sqlite_rules.proofs.TableLemmas.{int_is}
use Rattle.mls_tables.specs.declared.rows.CellRow.{CellRow}
use Rattle.mls_tables.specs.declared.rows.TupleKey.{TupleKey}
use Rattle.mls_tables.specs.Schema.{schema, node, cell}
use Rattle.mls_tables.specs.Rows.{node_of, is_node_row, is_node, cell_of, is_cell_row, is_cell_in, class_values, tables_of, blob_in}
use Rattle.mls_tables.specs.Statements.{IsSchemaReady, IsNext, Changes, DropsNode, DropsCells, SetsCell, IsOne, has_key_of}
use Rattle.mls_tables.proofs.RowValues.{cell_values}
use Rattle.mls_tables.proofs.Texts.{by_class, by_cell, set_terms, drop_node, drop_node_is, drop_cells, drop_cells_is, set_cell, set_cell_is}
use Rattle.mls_tables.proofs.PlainWrites.{drops, sets}
use Rattle.mls_tables.proofs.QueryAnswers.{rows_by, passes, answered}
use Rattle.mls_tables.proofs.TableRows.{filtered}
use Rattle.mls_tables.proofs.TableEdits.{dropped, replaced}
use Rattle.mls_tables.proofs.SchemaLemmas.{at_rest}
use Rattle.mls_tables.proofs.ReadyLemmas.{nodes_changed, cells_changed}
use Rattle.mls_tables.proofs.ValueTests.{node_parts, cell_parts, node_in_class, cell_in_class, cell_at_key, nat_is, blob_is}
use Rattle.mls_tables.proofs.Adds.{cast_int, cast_cell}

node_id : (r : Row) → is_node_row r ≡ true → is_int (rowid r) ≡ true
node_id r h = (node_parts r h).id

cell_id : (r : Row) → is_cell_row r ≡ true → is_int (rowid r) ≡ true
cell_id r h = (cell_parts r h).id

module _ (old new : State) (ready : IsSchemaReady old.now) where
  -- the rows that a statement shows are taken out of their table, and parts of them put in
  abbrev Moves : Table → ℕ → (List Row → List Row) → Query → Row → Type 0
  Moves table from put q params =
      (new.now.schema ≡ schema ready.0.others) × (rows : List Row) × IsAnswer q (overlay old.now.trees []) params rows
      × Applies (schema ready.0.others) Enforced old.now.trees (edit_of old.now.trees table (ids_of rows) Given from
      (put rows)) new.now.trees × IsNext old new

  abbrev nothing : List Row → List Row
  nothing rows = []

  node_dropped : (k : TupleKey) → Moves node 0 nothing (rows_by 0 by_class (col 1 0 ∷ [])) (class_values k)
      → Changes (DropsNode k) old new
  node_dropped k did =
      let params = class_values k in
      let left = dropped is_node_row node_of (schema ready.0.others) old.now.trees new.now.trees node ready.1.0 node_id
      (passes by_class params) (is_node k) (node_in_class k) did.1
      (answered 0 by_class (col 1 0 ∷ []) [] old.now.trees params did.1 refl did.2) did.3 in
      let all = nodes_changed old.now new.now ready did.0 left.0 did.3.tables in
      record {
        ready = all.0;
        rows = all.1 ∙ ap (λ ns. record (tables_of old.now.trees) { nodes = ns }) left.1;
        next =
            did.4;
      }

  pub drops_node : (k : TupleKey) (r : Result ℕ Error) → Executes drop_node (class_values k) old new r
      → OnOk r (Changes (DropsNode k) old new)
  drops_node k (Err e) h = tt
  drops_node k (Ok count) h =
      node_dropped k (drops old new (schema ready.0.others) ready.0.is drop_node 0 node refl
      (at_rest ready.0.others ready.0.apart node.tree) (class_values k) count h (rows_by 0 by_class (col 1 0 ∷ []))
      (drop_node_is ready.0.others))

  cells_dropped : (k : TupleKey) → Moves cell 0 nothing (rows_by 2 by_class (col 1 0 ∷ [])) (class_values k)
      → Changes (DropsCells k) old new
  cells_dropped k did =
      let params = class_values k in
      let left = dropped is_cell_row cell_of (schema ready.0.others) old.now.trees new.now.trees cell ready.1.1.0 cell_id (passes by_class params) (is_cell_in k) (cell_in_class k) did.1
      (answered 2 by_class (col 1 0 ∷ []) [] old.now.trees params did.1 refl did.2) did.3 in
      let all = cells_changed old.now new.now ready did.0 left.0 did.3.tables in
      record {
        ready = all.0;
        rows = all.1 ∙ ap (λ cs. record (tables_of old.now.trees) { cells = cs }) left.1;
        next =
            did.4;
      }

  pub drops_cells : (k : TupleKey) (r : Result ℕ Error) → Executes drop_cells (class_values k) old new r
      → OnOk r (Changes (DropsCells k) old new)
  drops_cells k (Err e) h = tt
  drops_cells k (Ok count) h =
      cells_dropped k (drops old new (schema ready.0.others) ready.0.is drop_cells 1 cell refl
      (at_rest ready.0.others ready.0.apart cell.tree) (class_values k) count h (rows_by 2 by_class (col 1 0 ∷ []))
      (drop_cells_is ready.0.others))

-- ---- a cell is set

single : {X Y : Type 0} (f : X → Y) (xs : List X) (y : Y) → map f xs ≡ y ∷ [] → (x : X) × (xs ≡ x ∷ [])
single f [] y h = absurd (cc)
single f (x ∷ []) y h = (x, refl)
single f (x ∷ z ∷ xs) y h = absurd (cc)

same_number : (a b : ℕ) → nat_eq a b ≡ true → a ≡ b
same_number a b h = grind (arith, nat_tests)

passed : (p : Row → Bool) (rows : List Row) → AllByRecursion (λ r. p r ≡ true) (filter p rows)
passed p [] = tt
passed p (r ∷ rows) = elim (cases_Bool (p r)) [
  | inl e ↦ rw e (e, passed p rows)
  | inr e ↦ rw e (passed p rows)
]

-- what the statement makes of the one row
new_row : (x : CellRow) (r : Row) → is_cell_row r ≡ true → has_key_of x (cell_of r) ≡ true
    → eval_all set_terms (cell_values x ∷ r ∷ []) ≡ Int (id_in (rowid r)) ∷ Int (id_in (rowid r)) ∷ cell_values x
new_row x r fits hit =
    let c = cell_parts r fits in
    let a = and_parts _ _ hit in
    let b = and_parts _ _ a.1 in
    let d = and_parts _ _ b.1 in
    let e = and_parts _ _ d.1 in
    let rel : column r 1 ≡ Int (pos x.rel) = nat_is (column r 1) c.rel ∙ ap (λ n. Int (pos n)) (same_number _ x.rel a.0)
    in
    let ent : column r 2 ≡ Blob x.ent = blob_is (column r 2) c.ent
    ∙ ap Blob ((bytes_eq-Decides (blob_in (column r 2)) x.ent).0 b.0) in
    let kclass : column r 3 ≡ Int (pos x.kclass) = nat_is (column r 3) c.kclass ∙ ap (λ n. Int (pos n))
    (same_number _ x.kclass d.0) in
    let label : column r 4 ≡ Int (pos x.label) = nat_is (column r 4) c.label ∙ ap (λ n. Int (pos n))
    (same_number _ x.label e.0) in
    let attr : column r 5 ≡ Int (pos x.attr) = nat_is (column r 5) c.attr ∙ ap (λ n. Int (pos n))
    (same_number _ x.attr e.1) in
    let id : rowid r ≡ Int (id_in (rowid r)) = int_is (rowid r) c.id in
    rw (rel, ent, kclass, label, attr, ← id) refl

-- the row of the one cell with a key
pub record IsFound (x : CellRow) (rows : List Row) (r : Row) : Type 0 where
  pub one : filter (passes by_cell (cell_values x)) rows ≡ r ∷ []
  pub fits : is_cell_row r ≡ true
  pub hits : has_key_of x (cell_of r) ≡ true

found_row : (x was : CellRow) (rows : List Row) → AllByRecursion (λ r. is_cell_row r ≡ true) rows
    → IsOne (has_key_of x) (map cell_of rows) was → (r : Row) × IsFound x rows r
found_row x was rows are one =
    let p = passes by_cell (cell_values x) in
    let found = single cell_of (filter p rows) was (filtered is_cell_row cell_of p (has_key_of x)
    (cell_at_key x) rows are ∙ one) in
    let fits : is_cell_row found.0 ≡ true = (subst (AllByRecursion (λ r. is_cell_row r ≡ true)) found.1
    (all-filter _ p rows are)).0 in (
      found.0,
      record {
        one = found.1;
        fits = fits;
        hits = sym (cell_at_key x found.0 fits)
            ∙ (subst (AllByRecursion (λ r. p r ≡ true)) found.1 (passed p rows)).0;
      },
    )

-- what the statement shows of the one row
shown_row : (x : CellRow) (rows shown : List Row) (r : Row) → IsFound x rows r
    → IsPermutation (map (λ r. eval_all set_terms (cell_values x ∷ r ∷ []))
    (filter (passes by_cell (cell_values x)) rows)) shown
    → shown ≡ (Int (id_in (rowid r)) ∷ Int (id_in (rowid r)) ∷ cell_values x) ∷ []
shown_row x rows shown r found same =
    one_permutation (Int (id_in (rowid r)) ∷ Int (id_in (rowid r)) ∷ cell_values x) shown
    (subst (λ some. IsPermutation some shown) (ap (map (λ r. eval_all set_terms (cell_values x ∷ r ∷ []))) found.one
    ∙ ap (λ a. a ∷ []) (new_row x r found.fits found.hits)) same)

abbrev whole : List Row → List Row
whole rows = rows

module _ (old new : State) (ready : IsSchemaReady old.now) where
  cell_set : (x was : CellRow) → IsOne (has_key_of x) (tables_of old.now.trees).cells was
      → Moves old new ready cell 1 whole (rows_by 2 by_cell set_terms) (cell_values x) → Changes (SetsCell x) old new
  cell_set x was one did =
      let found = found_row x was (old.now.trees 2) ready.1.1.0.1 one in
      let id = id_in (rowid found.0) in
      let step = subst (λ some. Applies (schema ready.0.others) Enforced old.now.trees (edit_of old.now.trees cell
      (ids_of some) Given 1 some) new.now.trees)
      (shown_row x (old.now.trees 2) did.1 found.0 found.1 (answered 2 by_cell set_terms [] old.now.trees
      (cell_values x) did.1 refl did.2)) did.3 in
      let put = replaced is_cell_row cell_of (schema ready.0.others) old.now.trees new.now.trees cell ready.1.1.0 cell_id (passes by_cell (cell_values x)) (has_key_of x) (cell_at_key x) found.0 id (cell_values x) found.1.one refl
      (cast_cell (Int id) x (cast_int id)) refl step in
      let all = cells_changed old.now new.now ready did.0 put.0 did.3.tables in
      record { ready = all.0; rows = (all.1, put.1); next = did.4 }

  pub sets_cell : (x was : CellRow) (r : Result ℕ Error) → IsOne (has_key_of x) (tables_of old.now.trees).cells was
      → Executes set_cell (cell_values x) old new r
      → OnOk r (Changes (SetsCell x) old new)
  sets_cell x was (Err e) one h = tt
  sets_cell x was (Ok count) one h = cell_set x was one
      (sets old new (schema ready.0.others) ready.0.is set_cell 1 cell refl
      (at_rest ready.0.others ready.0.apart cell.tree) (cell_values x) count h (rows_by 2 by_cell set_terms)
      (set_cell_is ready.0.others))
