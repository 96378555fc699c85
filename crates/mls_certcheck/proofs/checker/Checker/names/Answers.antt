use Rattle.mls_certcheck.specs.Lines.{names}
use Rattle.mls_certcheck.specs.Loops.{loops_of}
use Rattle.mls_certcheck.specs.Walk.{claim_of}
use Rattle.mls_certcheck.proofs.LabelLemmas.{join_next}
use Rattle.mls_certcheck.proofs.checker.Checker.names.Goals as goal

pub loop-expr-preserved : goal.loop-expr-preserved
loop-expr-preserved c =
    let h = c.args.here.now in
    join_next (claim_of c.args.self.now) (names h.before
    (loops_of h.loops)) c.args.exprs.now c.loop-expr.expr-index c.expr-item.result _ _ _ c.loop-expr-test.true c.expr-item.is c.loop-expr.invariant c.label.ensures c.join-bound.ensures
