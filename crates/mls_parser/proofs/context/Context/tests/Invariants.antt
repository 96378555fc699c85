use Rattle.std.proofs.Common.{◌≡◌}
use Rattle.mls_parser.specs.ReadCondition.{tests_from, tests_at}
use Rattle.mls_parser.proofs.context.Context.tests.Given as goal

abbrev pub decreases-loop-whole : goal.decreases-loop-whole
decreases-loop-whole l = l.room

-- what is left, behind the tests that were read, is the whole
abbrev pub invariant-loop-whole : goal.invariant-loop-whole
invariant-loop-whole l = tests_at l.self l.fn.reader ≡ tests_from l.self l.room l.before l.whole l.reader
