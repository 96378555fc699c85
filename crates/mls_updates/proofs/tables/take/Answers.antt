use Rattle.std.proofs.Common.{None}
use Rattle.mls_updates.proofs.TablesLemmas.{others_stay}
use Rattle.mls_updates.proofs.tables.take.Goals as goal

pub returns-in-Some-clause-others : goal.returns-in-Some-clause-others
returns-in-Some-clause-others c = others_stay c.args.tables.now c.remove.new.self c.args.relation None c.remove.ensures.updates.0
