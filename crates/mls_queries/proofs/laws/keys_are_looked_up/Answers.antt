use Rattle.mls_queries.proofs.QueryLemmas.{keys_are_looked_up}
use Rattle.mls_queries.proofs.laws.keys_are_looked_up.Goals as goal

pub returns : goal.returns
returns c = keys_are_looked_up
