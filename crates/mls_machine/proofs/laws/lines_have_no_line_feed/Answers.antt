use Rattle.mls_machine.proofs.PartingLemmas.{policies_plain, replies_whole, runs_whole, turnings_whole, runs_part}
use Rattle.mls_machine.proofs.laws.lines_have_no_line_feed.Goals as goal

pub returns-clause-names : goal.returns-clause-names
returns-clause-names c = policies_plain

pub returns-clause-replies : goal.returns-clause-replies
returns-clause-replies c = replies_whole

pub returns-clause-runs : goal.returns-clause-runs
returns-clause-runs c = runs_whole

pub returns-clause-turnings : goal.returns-clause-turnings
returns-clause-turnings c = turnings_whole

pub returns-clause-parts : goal.returns-clause-parts
returns-clause-parts c = runs_part
