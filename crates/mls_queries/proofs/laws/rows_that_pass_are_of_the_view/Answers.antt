use Rattle.mls_queries.proofs.QueryLemmas.{rows_that_pass}
use Rattle.mls_queries.proofs.laws.rows_that_pass_are_of_the_view.Goals as goal

pub returns : goal.returns
returns c = rows_that_pass
