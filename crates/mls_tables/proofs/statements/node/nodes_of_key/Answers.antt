use Rattle.sqlite.specs.Held.{state}
use Rattle.mls_tables.specs.Rows.{class_values, is_node}
use Rattle.mls_tables.proofs.Texts.{by_class, nodes_of_key, nodes_of_key_is, nodes_of_key_takes}
use Rattle.mls_tables.proofs.ValueTests.{node_in_class}
use Rattle.mls_tables.proofs.Finds.{finds_nodes}
use Rattle.mls_tables.proofs.statements.node.nodes_of_key.Goals as goal

pub returns : goal.returns
returns g c =
    finds_nodes (state g.S.Store c.args.conn.now) (state g.S.Store c.select.new.conn) nodes_of_key
    (class_values c.args.key.now) by_class (is_node c.args.key.now)
    (node_in_class c.args.key.now) nodes_of_key_is nodes_of_key_takes
    c.select.result c.select.ensures.clean (rw (
      c.params-to_sql.ensures,
      c.params-to_sql-2.ensures,
      c.params-to_sql-3.ensures,
      c.params-to_sql-4.ensures,
      c.as_slice.ensures,
    ) at c.select.ensures.shown)
    (rw (
      c.params-to_sql.ensures,
      c.params-to_sql-2.ensures,
      c.params-to_sql-3.ensures,
      c.params-to_sql-4.ensures,
      c.as_slice.ensures,
    ) at c.select.ensures.refused)
