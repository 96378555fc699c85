use Rattle.mls_filterview.proofs.RowLemmas.{rows_are_the_view}
use Rattle.mls_filterview.proofs.laws.rows_are_the_view.Goals as goal

pub returns : goal.returns
returns c = rows_are_the_view
