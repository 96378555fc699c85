-- A new store, from its statements.
use Rattle.std.proofs.Common.{◌≡◌, ℕ, List, [], ◌∷◌, Ok, Err, Result, OnOk, IsPermutation, refl, sym, ap, subst, ◌∙◌}
use Rattle.sqlite.specs.Effect.{Database}
use Rattle.sqlite.specs.State.{State, Commits}
use Rattle.sqlite.specs.declared.error.Error.{Error}
use Rattle.sqlite.proofs.Callers.{one_permutation}
use Rattle.mls_tables.specs.Schema.{IsMade, no_others, schema}
use Rattle.mls_tables.specs.Rows.{Tables, tables_of, no_rows, first_meta, described}
use Rattle.mls_tables.specs.Statements.{IsSchemaReady, Changes, AddsMeta, IsNewStore}

-- tables without a row are ready
pub made_ready : (db : Database) → IsMade (schema no_others) db → IsSchemaReady db × (tables_of db.trees ≡ no_rows)
made_ready db made =
    let nodes : db.trees 0 ≡ [] = made.1.0 in
    let cells : db.trees 2 ≡ [] = made.1.1.0 in
    let audit : db.trees 4 ≡ [] = made.1.1.1.0 in
    let meta : db.trees 5 ≡ [] = made.1.1.1.1.0 in (
      (
        record { others = no_others; apart = record { tables = refl; indexes = refl }; is = made.0 },
        (rw nodes (tt, tt), (rw cells (tt, tt), (rw audit (tt, tt), rw meta (tt, tt)))),
      ),
      rw (nodes, cells, audit, meta) refl,
    )

module _ (made added end : State) (version : ℕ) (lattice schemes : List ℕ) (is : IsMade (schema no_others) made.now)
    (adds : Changes (AddsMeta (first_meta version lattice schemes)) made added) where
  new_store : Commits added end → IsNewStore version lattice schemes end
  new_store commits =
      let empty = (made_ready made.now is).1 in
      let now = tables_of added.now.trees in
      let one : now.meta ≡ first_meta version lattice schemes ∷ [] =
      one_permutation (first_meta version lattice schemes) now.meta
      (subst (λ (t : Tables). IsPermutation (first_meta version lattice schemes
      ∷ t.meta) now.meta) empty adds.rows.1) in
      let all : now ≡ described version lattice schemes = adds.rows.0
      ∙ (ap (λ (t : Tables). record t { meta = now.meta }) empty ∙ ap (λ ms. record no_rows { meta = ms }) one) in
      record {
        settled = record {
          is_open = commits.0.is_open;
          mode = commits.0.mode;
          ready = subst IsSchemaReady (sym commits.0.now_is) adds.ready;
          settled = commits.0.now_is ∙ sym commits.0.committed_is;
        };
        rows = ap (λ (db : Database). tables_of db.trees) commits.0.now_is ∙ all;
      }

  pub stored : (r : Result ℕ Error) → OnOk r (Commits added end) → OnOk r (IsNewStore version lattice schemes end)
  stored (Err e) h = tt
  stored (Ok count) h = new_store h
