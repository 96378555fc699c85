use Rattle.mls_lattice.specs.Policy.{labels_of}
use Rattle.mls_filterview.specs.Stored.{AreContent}
use Rattle.cases.proofs.transactions.evaluations.tell_over.Given as goal

abbrev pub invariant-loop-at : goal.invariant-loop-at
invariant-loop-at g l = (g.B.Base.seen l.base).is_clean
    → AreContent (labels_of l.sample.policy.now) l.sample.schemes.now (g.B.Base.seen l.base).state.now.db
