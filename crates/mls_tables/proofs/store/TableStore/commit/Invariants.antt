use Rattle.sqlite.specs.Held.{state}
use Rattle.mls_tables.specs.Rows.{tables_of}
use Rattle.mls_tables.proofs.store.TableStore.commit.Given as goal

abbrev pub ghost-remember : goal.ghost-remember
ghost-remember g a = tables_of (state g.S.Store a._conn.now).committed.trees
