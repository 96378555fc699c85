use Rattle.sqlite.specs.Held.{state}
use Rattle.mls_tables.proofs.Finds.{finds_entries}
use Rattle.mls_tables.proofs.statements.audit.entries.Goals as goal

pub returns : goal.returns
returns g c =
    finds_entries (state g.S.Store c.args.conn.now) (state g.S.Store c.select.new.conn)
    c.select.result c.select.ensures.clean c.select.ensures.shown c.select.ensures.refused
