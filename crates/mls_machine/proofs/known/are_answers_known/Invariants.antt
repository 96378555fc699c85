use Rattle.std.proofs.Common.{◌≡◌, drop}
use Rattle.mls_machine.specs.Known.{answers_known}
use Rattle.mls_machine.proofs.known.are_answers_known.Given as goal

abbrev pub invariant-loop-answer : goal.invariant-loop-answer
invariant-loop-answer l = answers_known l.count (drop l.answer-index l.answers) ≡ answers_known l.count l.answers
