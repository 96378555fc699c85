use Rattle.std.proofs.Common.{Err, rules, subst, sym, ◌≡◌, true, map}
use Rattle.sqlite.specs.Held.{state}
use Rattle.mls_tables.specs.Rows.{cell_beside}
use Rattle.mls_tables.specs.Statements.{AddsCells}
use Rattle.mls_tables.specs.Store.{TableState, IsStoreCall, table_state, AreCellsRefused, IsStoreWrite}
use Rattle.mls_tables.proofs.ReasonLemmas.{cells_caused}
use Rattle.mls_tables.proofs.store.TableStore.add_cells.Goals as goal

pub returns-in-Err : goal.returns-in-Err
returns-in-Err g c =
    let t = c.self.inside in
    let left = c.abandon_after.new in
    let old = state g.S.Store t.conn in
    let mid = state g.S.Store c.add_own.new.conn in
    let new = state g.S.Store left.conn in
    let before : TableState = table_state old t.begun t.notes.noted.failures t.notes.noted.rows in
    let after : TableState = table_state new left.begun left.store.noted.failures left.store.noted.rows in
    let call : IsStoreCall before after (Err c.abandon_after.result) = search rules in
    let begun : t.begun ≡ true = subst (λ (v : TableState). v.begun ≡ true) (sym c.self.view_is) c.requires.begun in
    subst (λ (v : TableState). IsStoreWrite (AddsCells (map (cell_beside c.args.node.now) c.args.cells.now))
    (AreCellsRefused c.args.node.now c.args.cells.now v) v after (Err c.abandon_after.result)) c.self.view_is
    (record {
      call = call;
      mode = tt;
      done = λ _. tt;
      cause = λ disk is. cells_caused old mid new t.begun t.notes.noted.rows _ _ c.in-Err.error c.abandon_after.result c.self.invariant c.abandon_after.ensures.fallen c.in-Err.ensures.wrote.clean disk is begun c.args.node.now c.args.cells.now (λ now within other. c.in-Err.ensures.stopped now within other);
    })
