use Rattle.std.proofs.Common.{◌≡◌, drop}
use Rattle.mls_script.specs.Grammar.{one_among}
use Rattle.mls_script.proofs.grammar.one_among.Given as goal

abbrev pub invariant-loop-verb : goal.invariant-loop-verb
invariant-loop-verb l = one_among (drop l.verb-index l.verbs) l.word ≡ one_among l.verbs l.word
