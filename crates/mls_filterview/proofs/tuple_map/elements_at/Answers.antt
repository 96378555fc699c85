use Rattle.std.proofs.Common.{sym, ◌∙◌}
use Rattle.mls_filterview.proofs.MapLemmas.{get_in}
use Rattle.mls_filterview.proofs.tuple_map.elements_at.Goals as goal

pub returns : goal.returns
returns c = c.get.ensures.value ∙ sym (get_in c.args.tuples.now.entries c.len-count.ensures.ordered c.args.place.now)
