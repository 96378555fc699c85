use Rattle.mls_filterview.proofs.MapLemmas.{table_put}
use Rattle.mls_filterview.proofs.tuple_map.put_tuple.Goals as goal

pub returns-clause-table : goal.returns-clause-table
returns-clause-table c =
    table_put c.args.tuples.now.entries c.insert.new.self.entries c.insert.ensures.was_ordered c.insert.ensures.ordered c.args.place c.args.elements c.in_ok-insert.ensures.updates.0
