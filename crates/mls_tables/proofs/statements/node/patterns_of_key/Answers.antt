use Rattle.sqlite.specs.Held.{state}
use Rattle.mls_tables.proofs.PatternLemmas.{finds_patterns_of_key}
use Rattle.mls_tables.proofs.statements.node.patterns_of_key.Goals as goal

pub returns : goal.returns
returns g c =
    finds_patterns_of_key (state g.S.Store c.args.conn.now) (state g.S.Store c.select.new.conn) c.args.key.now
    c.select.result c.select.ensures.clean (rw (
      c.params-to_sql.ensures,
      c.params-to_sql-2.ensures,
      c.params-to_sql-3.ensures,
      c.params-to_sql-4.ensures,
      c.as_slice.ensures,
    ) at c.select.ensures.shown)
    (rw (
      c.params-to_sql.ensures,
      c.params-to_sql-2.ensures,
      c.params-to_sql-3.ensures,
      c.params-to_sql-4.ensures,
      c.as_slice.ensures,
    ) at c.select.ensures.refused)
