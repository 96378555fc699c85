use Rattle.std.proofs.Common.{sym, subst}
use Rattle.mls_lattice.specs.Policy.{labels_of}
use Rattle.mls_filterview.specs.Stored.{AreContent}
use Rattle.cases.proofs.transactions.evaluations.tell_over.Goals.{in-Some+in_ok-tell_case, in_default}
use Rattle.cases.proofs.transactions.evaluations.tell_over.Goals as goal

pub loop-at-preserved : goal.loop-at-preserved
loop-at-preserved g c = elim c.match-case_at.branch [
  | in-Some+in_ok-tell_case w ↦ subst (λ b. (g.B.Base.seen b).is_clean
      → AreContent (labels_of c.args.sample.now.policy.now) c.args.sample.now.schemes.now
      (g.B.Base.seen b).state.now.db) (sym w.base-is) w.in_ok-tell_case.ensures
  | in_default w ↦ subst (λ b. (g.B.Base.seen b).is_clean
      → AreContent (labels_of c.args.sample.now.policy.now) c.args.sample.now.schemes.now
      (g.B.Base.seen b).state.now.db) (sym w.base-is) c.loop-at.invariant
]
