use Rattle.mls_filterview.proofs.MapLemmas.{table_removed}
use Rattle.mls_filterview.proofs.tuple_map.remove_tuple.Goals as goal

pub returns : goal.returns
returns c =
    table_removed c.args.tuples.now.entries c.remove-removed.new.self.entries c.len-count.ensures.ordered c.remove-removed.ensures.ordered c.args.place.now c.remove-removed.ensures.updates.0
