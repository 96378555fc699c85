use Rattle.mls_stops.proofs.AnswerLineLemmas.{answers_are_unmarked}
use Rattle.mls_stops.proofs.MarkLemmas.{marks_are_lines, only_marks_are_marked}
use Rattle.mls_stops.proofs.only_marks_are_marked.Goals as goal

pub returns-clause-answers : goal.returns-clause-answers
returns-clause-answers c = answers_are_unmarked

pub returns-clause-marks : goal.returns-clause-marks
returns-clause-marks c = marks_are_lines

pub returns-clause-desks : goal.returns-clause-desks
returns-clause-desks c = only_marks_are_marked
