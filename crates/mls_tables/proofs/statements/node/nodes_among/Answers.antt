use Rattle.std.proofs.Common.{rules, ◌≡◌, ◌<◌, ◌^◌, pos, [], ◌∷◌, ap, ◌∙◌, w64}
use Rattle.std.specs.Int.{cast_signed, cast_unsigned}
use Rattle.std.proofs.lemmas.Int.{of_z-to_z}
use Rattle.sqlite.specs.declared.types.Value.TheVariants.{Int}
use Rattle.sqlite.specs.Held.{state}
use Rattle.mls_tables.specs.Rows.{is_node_among}
use Rattle.mls_tables.proofs.Texts.{by_labels, nodes_among, nodes_among_is, nodes_among_takes}
use Rattle.mls_tables.proofs.ValueTests.{node_among_labels}
use Rattle.mls_tables.proofs.Finds.{finds_nodes}
use Rattle.mls_tables.proofs.statements.node.nodes_among.Goals as goal

pub returns : goal.returns
returns g c =
    let within : c.args.labels < 2 ^ 64 = search rules in
    let bits : cast_unsigned w64 c.cast_signed.result ≡ c.args.labels = ap (cast_unsigned w64) c.cast_signed.ensures
    ∙ of_z-to_z w64 c.args.labels within in
    finds_nodes (state g.S.Store c.args.conn.now) (state g.S.Store c.select.new.conn) nodes_among (Int (pos c.args.rel)
    ∷ Int (cast_signed w64 c.args.labels) ∷ []) by_labels (is_node_among c.args.rel c.args.labels)
    (node_among_labels c.args.rel c.args.labels within) nodes_among_is nodes_among_takes c.select.result c.select.ensures.clean
    (rw (c.params-to_sql.ensures, c.params-to_sql-2.ensures, bits) at c.select.ensures.shown)
    (rw (c.params-to_sql.ensures, c.params-to_sql-2.ensures, bits) at c.select.ensures.refused)
