use Rattle.sqlite.specs.Held.{state}
use Rattle.mls_tables.specs.Rows.{class_values, is_cell_in}
use Rattle.mls_tables.proofs.Texts.{by_class, cells_of_tuple, cells_of_tuple_is, cells_of_tuple_takes}
use Rattle.mls_tables.proofs.ValueTests.{cell_in_class}
use Rattle.mls_tables.proofs.Finds.{finds_cells}
use Rattle.mls_tables.proofs.statements.cell.cells_of_tuple.Goals as goal

pub returns : goal.returns
returns g c =
    finds_cells (state g.S.Store c.args.conn.now) (state g.S.Store c.select.new.conn) cells_of_tuple
    (class_values c.args.key.now) by_class (is_cell_in c.args.key.now)
    (cell_in_class c.args.key.now) cells_of_tuple_is cells_of_tuple_takes
    c.select.result c.select.ensures.clean (rw (
      c.params-to_sql.ensures,
      c.params-to_sql-2.ensures,
      c.params-to_sql-3.ensures,
      c.params-to_sql-4.ensures,
      c.as_slice.ensures,
    ) at c.select.ensures.shown)
    (rw (
      c.params-to_sql.ensures,
      c.params-to_sql-2.ensures,
      c.params-to_sql-3.ensures,
      c.params-to_sql-4.ensures,
      c.as_slice.ensures,
    ) at c.select.ensures.refused)
