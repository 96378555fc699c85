use Rattle.std.proofs.Common.{Err, rules, subst}
use Rattle.sqlite.specs.Held.{state}
use Rattle.mls_tables.specs.Rows.{class_values}
use Rattle.mls_tables.specs.Sql.{drop_node}
use Rattle.mls_tables.specs.Statements.{DropsNode}
use Rattle.mls_tables.specs.Store.{TableState, IsStoreCall, table_state, IsRefused, IsStoreWrite}
use Rattle.mls_tables.proofs.ReasonLemmas.{write_caused}
use Rattle.mls_tables.proofs.store.TableStore.drop_node.Goals as goal

pub returns-in-Err : goal.returns-in-Err
returns-in-Err g c =
    let t = c.self.inside in
    let left = c.abandon_after.new in
    let old = state g.S.Store t.conn in
    let mid = state g.S.Store c.drop_node.new.conn in
    let new = state g.S.Store left.conn in
    let before : TableState = table_state old t.begun t.notes.noted.failures t.notes.noted.rows in
    let after : TableState = table_state new left.begun left.store.noted.failures left.store.noted.rows in
    let call : IsStoreCall before after (Err c.abandon_after.result) = search rules in
    subst (λ (v : TableState). IsStoreWrite (DropsNode c.args.key.now)
    (IsRefused drop_node (class_values c.args.key.now) v) v after (Err c.abandon_after.result)) c.self.view_is
    (record {
      call = call;
      mode = tt;
      done = λ _. tt;
      cause = λ disk is. write_caused old mid new t.begun t.notes.noted.rows _ _ c.in-Err.error c.abandon_after.result c.self.invariant c.abandon_after.ensures.fallen c.in-Err.ensures.wrote.clean disk is drop_node (class_values c.args.key.now) (λ now ready. c.in-Err.ensures.wrote.cause now ready) (λ now. c.in-Err.ensures.runs now);
    })
