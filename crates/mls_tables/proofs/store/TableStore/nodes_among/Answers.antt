use Rattle.std.proofs.Common.{Err, rules, subst, IsPermutation, filter}
use Rattle.sqlite.specs.Held.{state}
use Rattle.mls_tables.specs.Rows.{among_values, is_node_among}
use Rattle.mls_tables.specs.Sql.{nodes_among}
use Rattle.mls_tables.specs.Store.{TableState, IsStoreCall, table_state, IsStoreQuery, IsUnread}
use Rattle.mls_tables.proofs.ReasonLemmas.{query_caused}
use Rattle.mls_tables.proofs.store.TableStore.nodes_among.Goals as goal

pub returns-in-Err : goal.returns-in-Err
returns-in-Err g c =
    let t = c.self.inside in
    let left = c.abandon_after.new in
    let old = state g.S.Store t.conn in
    let mid = state g.S.Store c.nodes_among.new.conn in
    let new = state g.S.Store left.conn in
    let before : TableState = table_state old t.begun t.notes.noted.failures t.notes.noted.rows in
    let after : TableState = table_state new left.begun left.store.noted.failures left.store.noted.rows in
    let call : IsStoreCall before after (Err c.abandon_after.result) = search rules in
    subst (λ (v : TableState). IsStoreQuery (IsPermutation
    (filter (is_node_among c.args.rel c.args.labels) v.now.nodes))
    (IsUnread nodes_among (among_values c.args.rel c.args.labels) v) v after
    (Err c.abandon_after.result)) c.self.view_is (record {
      call = call;
      mode = tt;
      found = λ _. tt;
      same = λ _. tt;
      cause = λ disk is. query_caused old mid new t.begun t.notes.noted.rows _ _ c.in-Err.error c.abandon_after.result c.self.invariant c.abandon_after.ensures.fallen c.in-Err.ensures.clean disk is nodes_among (among_values c.args.rel c.args.labels) (λ now ready. c.in-Err.ensures.cause now ready) (λ now ready other. c.in-Err.ensures.stopped now ready other);
    })
