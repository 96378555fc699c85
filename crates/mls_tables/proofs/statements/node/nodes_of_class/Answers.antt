use Rattle.std.proofs.Common.{pos, [], ◌∷◌}
use Rattle.sqlite.specs.declared.types.Value.TheVariants.{Int}
use Rattle.sqlite.specs.Held.{state}
use Rattle.mls_tables.specs.Rows.{is_node_at}
use Rattle.mls_tables.proofs.Texts.{by_label, nodes_of_class, nodes_of_class_is, nodes_of_class_takes}
use Rattle.mls_tables.proofs.ValueTests.{node_at_label}
use Rattle.mls_tables.proofs.Finds.{finds_nodes}
use Rattle.mls_tables.proofs.statements.node.nodes_of_class.Goals as goal

pub returns : goal.returns
returns g c =
    finds_nodes (state g.S.Store c.args.conn.now) (state g.S.Store c.select.new.conn) nodes_of_class
    (Int (pos c.args.rel) ∷ Int (pos c.args.label) ∷ []) by_label (is_node_at c.args.rel c.args.label)
    (node_at_label c.args.rel c.args.label) nodes_of_class_is nodes_of_class_takes
    c.select.result c.select.ensures.clean (rw (
      c.params-to_sql.ensures,
      c.params-to_sql-2.ensures,
    ) at c.select.ensures.shown) (rw (
      c.params-to_sql.ensures,
      c.params-to_sql-2.ensures,
    ) at c.select.ensures.refused)
