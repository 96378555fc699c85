use Rattle.mls_tables.proofs.store.remember.Given as goal

abbrev pub ghost-keep : goal.ghost-keep
ghost-keep g a = record a.self.now.noted { rows = g.rows }
