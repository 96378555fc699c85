use Rattle.std.proofs.Common.{rules, ◌≡◌, ◌<◌, ◌^◌, pos, [], ◌∷◌, ap, ◌∙◌, w64}
use Rattle.std.specs.Int.{cast_signed, cast_unsigned}
use Rattle.std.proofs.lemmas.Int.{of_z-to_z}
use Rattle.sqlite.specs.declared.types.Value.TheVariants.{Int}
use Rattle.sqlite.specs.Held.{state}
use Rattle.mls_tables.specs.Rows.{is_cell_among}
use Rattle.mls_tables.proofs.Texts.{by_labels, cells_among, cells_among_is, cells_among_takes}
use Rattle.mls_tables.proofs.ValueTests.{cell_among_labels}
use Rattle.mls_tables.proofs.Finds.{finds_cells}
use Rattle.mls_tables.proofs.statements.cell.cells_among.Goals as goal

pub returns : goal.returns
returns g c =
    let within : c.args.labels < 2 ^ 64 = search rules in
    let bits : cast_unsigned w64 c.cast_signed.result ≡ c.args.labels = ap (cast_unsigned w64) c.cast_signed.ensures
    ∙ of_z-to_z w64 c.args.labels within in
    finds_cells (state g.S.Store c.args.conn.now) (state g.S.Store c.select.new.conn) cells_among (Int (pos c.args.rel)
    ∷ Int (cast_signed w64 c.args.labels) ∷ []) by_labels (is_cell_among c.args.rel c.args.labels)
    (cell_among_labels c.args.rel c.args.labels within) cells_among_is cells_among_takes c.select.result c.select.ensures.clean
    (rw (c.params-to_sql.ensures, c.params-to_sql-2.ensures, bits) at c.select.ensures.shown)
    (rw (c.params-to_sql.ensures, c.params-to_sql-2.ensures, bits) at c.select.ensures.refused)
