use Rattle.mls_queries.proofs.QueryLemmas.{queries_use_the_view}
use Rattle.mls_queries.proofs.laws.queries_use_the_view.Goals as goal

pub returns : goal.returns
returns c = queries_use_the_view
