use Rattle.mls_machine.proofs.HistoryLemmas.{turned_alike, turned_lines}
use Rattle.mls_machine.proofs.laws.turnings_are_alike.Goals as goal

pub returns-clause-worlds : goal.returns-clause-worlds
returns-clause-worlds c = turned_alike

pub returns-clause-lines : goal.returns-clause-lines
returns-clause-lines c = turned_lines
