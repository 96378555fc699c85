use Rattle.std.proofs.Common.{◌≡◌, drop}
use Rattle.mls_script.specs.Grammar.{verb_among}
use Rattle.mls_script.proofs.grammar.verb_among.Given as goal

abbrev pub invariant-loop-verb : goal.invariant-loop-verb
invariant-loop-verb l = verb_among (drop l.verb-index l.verbs) l.word ≡ verb_among l.verbs l.word
