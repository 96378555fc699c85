use Rattle.mls_lives.proofs.QueryLemmas.{found_in_order, counts_are_lengths, highest_keep}
use Rattle.mls_lives.proofs.queries_find_rows.Goals as goal

pub returns-clause-rows : goal.returns-clause-rows
returns-clause-rows c = found_in_order

pub returns-clause-count : goal.returns-clause-count
returns-clause-count c = counts_are_lengths

pub returns-clause-highest : goal.returns-clause-highest
returns-clause-highest c = highest_keep
