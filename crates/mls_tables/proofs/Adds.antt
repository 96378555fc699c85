-- What adding a row comes to, in each table.
use Rattle.std.proofs.Common.{◌≡◌, ap, subst, subst₂, ◌∙◌, ℕ, ℤ, pos, List, [], ◌∷◌, ◌++◌, suc, map, length, Bool, true, false, cond, Ok, Err, Result, OnOk, refl, flat_map, append-nil, append_assoc}
use Rattle.sqlite.specs.declared.types.Value.{Value}
use Rattle.sqlite.specs.declared.types.Value.TheVariants.{Null, Int, Text, Blob}
use Rattle.sqlite.specs.declared.error.Error.{Error}
use Rattle.sqlite.specs.Table.{Table}
use Rattle.sqlite.specs.Ops.{unary}
use Rattle.sqlite.specs.Cast.{cast}
use Rattle.sqlite.specs.Kind.TheVariants.{Integer}
use Rattle.sqlite.specs.Rowids.TheVariants.{Chosen}
use Rattle.sqlite.specs.Edit.{edit_of, Applies}
use Rattle.sqlite.specs.Effect.{value_rows}
use Rattle.sqlite.specs.State.{State, Executes}
use Rattle.sqlite_value.specs.Order.{Row, column}
use Rattle.sqlite_schema.specs.declared.schema.Keys.TheVariants.{Enforced}
use Rattle.sqlite_rules.specs.Cast.{cast_row}
use Rattle.mls_tables.specs.declared.rows.NodeRow.{NodeRow}
use Rattle.mls_tables.specs.declared.rows.CellRow.{CellRow}
use Rattle.mls_tables.specs.declared.rows.OwnCell.{OwnCell}
use Rattle.mls_tables.specs.declared.rows.AuditRow.{AuditRow}
use Rattle.mls_tables.specs.Schema.{schema, node, cell, audit, meta}
use Rattle.mls_tables.specs.Rows.{node_of, is_node_row, cell_of, is_cell_row, cell_beside, key_of, class_values, own_values, audit_of, is_audit_row, meta_of, is_meta_row, first_meta}
use Rattle.mls_tables.specs.Statements.{IsSchemaReady, IsNext, Changes, AddsNode, AddsCell, AddsCells, AddsEntry, AddsMeta}
use Rattle.mls_tables.proofs.RowValues.{node_values, cell_values, audit_values}
use Rattle.mls_tables.proofs.Texts.{add_node, add_node_is, node_terms, add_cell, add_cell_is, cell_terms, AddsOwn, own_terms, add_entry, add_entry_is, audit_terms, add_meta, add_meta_is, meta_terms}
use Rattle.mls_tables.proofs.PlainWrites.{adds}
use Rattle.mls_tables.proofs.SchemaLemmas.{at_rest}
use Rattle.mls_tables.proofs.TableEdits.{added, added_each}
use Rattle.mls_tables.proofs.ReadyLemmas.{nodes_changed, cells_changed, audit_changed, meta_changed}

-- ---- values of a column's kind are cast to themselves

either : (b : Bool) (x : Value) → cond b x x ≡ x
either true x = refl
either false x = refl

cast_null : cast Integer Null ≡ Null
unfolding unary
cast_null = either _ Null

pub cast_int : (n : ℤ) → cast Integer (Int n) ≡ Int n
unfolding unary
cast_int n = either _ (Int n)

cast_node : (n : NodeRow) → cast_row node (Null ∷ node_values n) ≡ Null ∷ node_values n
cast_node n = rw (cast_null, cast_int (pos n.rel), cast_int (pos n.kclass), cast_int (pos n.label))

pub cast_cell : (id : Value) (c : CellRow) → cast Integer id ≡ id → cast_row cell (id ∷ cell_values c)
    ≡ id ∷ cell_values c
cast_cell id c same = rw (
  same,
  cast_int (pos c.rel),
  cast_int (pos c.kclass),
  cast_int (pos c.label),
  cast_int (pos c.attr),
)

cast_entry : (number : ℤ) (bytes : List ℕ) → cast_row audit (Int number ∷ Null ∷ Blob bytes ∷ []) ≡ Int number ∷ Null
    ∷ Blob bytes ∷ []
cast_entry number bytes = rw (cast_int number, cast_null)

cast_meta : (version : ℕ) (lattice schemes : List ℕ)
    → cast_row meta (Int (pos 1) ∷ Null ∷ Int (pos version) ∷ Text lattice ∷ Text schemes ∷ []) ≡ Int (pos 1) ∷ Null
    ∷ Int (pos version) ∷ Text lattice ∷ Text schemes ∷ []
cast_meta version lattice schemes = rw (cast_int (pos 1), cast_null, cast_int (pos version))

-- ---- the rows of cells beside a node

-- what a statement adds to the table of cells
abbrev cell_source : CellRow → Row
cell_source c = Null ∷ cell_values c

abbrev own_pairs : List OwnCell → Row
own_pairs cs = flat_map (λ c. Int (pos c.attr) ∷ Blob c.value ∷ []) cs

-- the value behind others
behind : (xs : Row) (y : Value) (ys : Row) → column (xs ++ y ∷ ys) (length xs) ≡ y
behind [] y ys = refl
behind (x ∷ xs) y ys = behind xs y ys

-- and the one after it
behind_next : (xs : Row) (y z : Value) (ys : Row) → column (xs ++ y ∷ z ∷ ys) (suc (length xs)) ≡ z
behind_next [] y z ys = refl
behind_next (x ∷ xs) y z ys = behind_next xs y z ys

longer : (xs : Row) (y z : Value) → length (xs ++ y ∷ z ∷ []) ≡ suc (suc (length xs))
longer [] y z = refl
longer (x ∷ xs) y z = ap suc (longer xs y z)

-- behind the key and the values of others
own_rows : (n : NodeRow) (before : Row) (cs : List OwnCell)
    → value_rows (class_values (key_of n) ++ (before ++ own_pairs cs)) 7 (length cs)
    (own_terms (suc (suc (suc (suc (length before))))) (length cs)) ≡ map cell_source (map (cell_beside n) cs)
own_rows n before [] = refl
own_rows n before (c ∷ cs) =
    let attr = Int (pos c.attr) in
    let value = Blob c.value in
    let more = own_pairs cs in
    let same : (before ++ attr ∷ value ∷ []) ++ more ≡ before ++ attr ∷ value ∷ more = append_assoc before (attr ∷ value
    ∷ []) more in
    let rest : value_rows (class_values (key_of n) ++ (before ++ attr ∷ value ∷ more)) 7 (length cs)
    (own_terms (suc (suc (suc (suc (suc (suc (length before))))))) (length cs))
    ≡ map cell_source (map (cell_beside n) cs) =
    subst₂ (λ given k. value_rows (class_values (key_of n) ++ given) 7 (length cs) (own_terms (suc (suc (suc (suc k))))
    (length cs)) ≡ map cell_source (map (cell_beside n) cs)) same (longer before attr value)
    (own_rows n (before ++ attr ∷ value ∷ []) cs) in
    let row : Null ∷ Int (pos n.rel) ∷ Blob n.ent ∷ Int (pos n.kclass) ∷ Int (pos n.label)
    ∷ column (before ++ attr ∷ value ∷ more) (length before) ∷ column (before ++ attr ∷ value ∷ more)
    (suc (length before)) ∷ [] ≡ cell_source (cell_beside n c) =
    rw (behind before attr (value ∷ more), behind_next before attr value more) refl in
    λ i. row i ∷ rest i

-- ---- each table

module _ (old new : State) (ready : IsSchemaReady old.now) where
  -- the source of the one row that a statement adds to a table
  abbrev Puts : Table → Row → Type 0
  Puts table source = (new.now.schema ≡ schema ready.0.others) × Applies (schema ready.0.others) Enforced old.now.trees
      (edit_of old.now.trees table [] Chosen 0 (source ∷ [])) new.now.trees × IsNext old new

  node_put : (n : NodeRow) → Puts node (Null ∷ node_values n) → Changes (AddsNode n) old new
  node_put n did =
      let put = added is_node_row node_of (schema ready.0.others) old.now.trees new.now.trees node ready.1.0
      (Null ∷ node_values n) (cast_node n) refl did.1 in
      let all = nodes_changed old.now new.now ready did.0 put.0 did.1.tables in
      record { ready = all.0; rows = (all.1, put.1); next = did.2 }

  pub adds_node : (n : NodeRow) (r : Result ℕ Error) → Executes add_node (node_values n) old new r
      → OnOk r (Changes (AddsNode n) old new)
  adds_node n (Err e) h = tt
  adds_node n (Ok count) h = node_put n (adds old new (schema ready.0.others) ready.0.is add_node 0 node refl
      (at_rest ready.0.others ready.0.apart node.tree) (node_values n) count h node_terms 6
      (add_node_is ready.0.others))

  cell_put : (c : CellRow) → Puts cell (Null ∷ cell_values c) → Changes (AddsCell c) old new
  cell_put c did =
      let put = added is_cell_row cell_of (schema ready.0.others) old.now.trees new.now.trees cell ready.1.1.0
      (Null ∷ cell_values c) (cast_cell Null c cast_null) refl did.1 in
      let all = cells_changed old.now new.now ready did.0 put.0 did.1.tables in
      record { ready = all.0; rows = (all.1, put.1); next = did.2 }

  pub adds_cell : (c : CellRow) (r : Result ℕ Error) → Executes add_cell (cell_values c) old new r
      → OnOk r (Changes (AddsCell c) old new)
  adds_cell c (Err e) h = tt
  adds_cell c (Ok count) h = cell_put c (adds old new (schema ready.0.others) ready.0.is add_cell 1 cell refl
      (at_rest ready.0.others ready.0.apart cell.tree) (cell_values c) count h cell_terms 7
      (add_cell_is ready.0.others))

  own_put : (n : NodeRow) (cs : List OwnCell) → (new.now.schema ≡ schema ready.0.others)
      × Applies (schema ready.0.others) Enforced old.now.trees (edit_of old.now.trees cell [] Chosen 0
      (map cell_source (map (cell_beside n) cs))) new.now.trees × IsNext old new
      → Changes (AddsCells (map (cell_beside n) cs)) old new
  own_put n cs did =
      let put = added_each is_cell_row cell_of (schema ready.0.others) old.now.trees new.now.trees cell ready.1.1.0 cell_source (λ c. cast_cell Null c cast_null) (λ rows c. refl) (λ rows c. refl) (map (cell_beside n) cs) did.1 in
      let all = cells_changed old.now new.now ready did.0 put.0 did.1.tables in
      record { ready = all.0; rows = (all.1, put.1); next = did.2 }

  -- cells beside a node, by the text that adds so many
  pub adds_own : (n : NodeRow) (cs : List OwnCell) (text : List ℕ) (r : Result ℕ Error) → AddsOwn text (length cs)
      → Executes text (own_values n cs) old new r
      → OnOk r (Changes (AddsCells (map (cell_beside n) cs)) old new)
  adds_own n cs text (Err e) means h = tt
  adds_own n cs text (Ok count) means h =
      let did = adds old new (schema ready.0.others) ready.0.is text 1 cell refl
      (at_rest ready.0.others ready.0.apart cell.tree) (own_values n cs) count h (own_terms 4 (length cs)) 7
      (means.0 ready.0.others).0 in
      let given = own_values n cs ++ [] in
      let rows = ap (λ k. value_rows given 7 k (own_terms 4 (length cs))) means.1
      ∙ ap (λ ps. value_rows ps 7 (length cs) (own_terms 4 (length cs))) (append-nil (own_values n cs))
      ∙ own_rows n [] cs in
      own_put n cs (
        did.0,
        subst (λ rs. Applies (schema ready.0.others) Enforced old.now.trees
            (edit_of old.now.trees cell [] Chosen 0 rs) new.now.trees) rows did.1,
        did.2,
      )

  entry_put : (a : AuditRow) → Puts audit (Int a.number ∷ Null ∷ Blob a.bytes ∷ []) → Changes (AddsEntry a) old new
  entry_put a did =
      let put = added is_audit_row audit_of (schema ready.0.others) old.now.trees new.now.trees audit ready.1.1.1.0
      (Int a.number ∷ Null ∷ Blob a.bytes ∷ []) (cast_entry a.number a.bytes) refl did.1 in
      let all = audit_changed old.now new.now ready did.0 put.0 did.1.tables in
      record { ready = all.0; rows = (all.1, put.1); next = did.2 }

  pub adds_entry : (a : AuditRow) (r : Result ℕ Error) → Executes add_entry (audit_values a) old new r
      → OnOk r (Changes (AddsEntry a) old new)
  adds_entry a (Err e) h = tt
  adds_entry a (Ok count) h = entry_put a (adds old new (schema ready.0.others) ready.0.is add_entry 2 audit refl
      (at_rest ready.0.others ready.0.apart audit.tree) (audit_values a) count h audit_terms 3
      (add_entry_is ready.0.others))

  meta_put : (version : ℕ) (lattice schemes : List ℕ) → Puts meta (Int (pos 1) ∷ Null ∷ Int (pos version) ∷ Text lattice
      ∷ Text schemes ∷ []) → Changes (AddsMeta (first_meta version lattice schemes)) old new
  meta_put version lattice schemes did =
      let put = added is_meta_row meta_of (schema ready.0.others) old.now.trees new.now.trees meta ready.1.1.1.1
      (Int (pos 1) ∷ Null ∷ Int (pos version) ∷ Text lattice ∷ Text schemes ∷ [])
      (cast_meta version lattice schemes) refl did.1 in
      let all = meta_changed old.now new.now ready did.0 put.0 did.1.tables in
      record { ready = all.0; rows = (all.1, put.1); next = did.2 }

  pub adds_meta : (version : ℕ) (lattice schemes : List ℕ) (r : Result ℕ Error)
      → Executes add_meta (Int (pos version) ∷ Text lattice ∷ Text schemes ∷ []) old new r
      → OnOk r (Changes (AddsMeta (first_meta version lattice schemes)) old new)
  adds_meta version lattice schemes (Err e) h = tt
  adds_meta version lattice schemes (Ok count) h =
      meta_put version lattice schemes (adds old new (schema ready.0.others) ready.0.is add_meta 3 meta refl
      (at_rest ready.0.others ready.0.apart meta.tree) (Int (pos version) ∷ Text lattice ∷ Text schemes
      ∷ []) count h meta_terms 5 (add_meta_is ready.0.others))
