use Rattle.std.proofs.Common.{Some}
use Rattle.mls_updates.proofs.TablesLemmas.{one_put}
use Rattle.mls_updates.proofs.tables.put.Goals as goal

pub returns : goal.returns
returns c = one_put c.args.tables.now c.insert.new.self c.args.relation
    (Some c.args.tuples) c.in_ok-insert.ensures.updates.0
