use Rattle.std.proofs.Common.{drop}
use Rattle.mls_scheme.proofs.ExtendingLemmas.{Before}
use Rattle.mls_scheme.proofs.extending.relations_before.Given as goal

abbrev pub invariant-loop-scheme : goal.invariant-loop-scheme
invariant-loop-scheme l = Before l.policy l.relations l.text l.counts.items (drop l.scheme-index l.relations) l.rest
