use Rattle.std.proofs.Common.{map, Err, sym, ap}
use Rattle.std.proofs.lemmas.Result.{err_from_is_err_and}
use Rattle.mls_certcheck.specs.Lent.{line_of}
use Rattle.mls_certcheck.specs.declared.lent.LentFlow.{LentFlow}
use Rattle.mls_certcheck.specs.declared.refusal.Rule.{Rule}
use Rattle.mls_certcheck.proofs.WalkLemmas.{drop_here, same_lines}
use Rattle.mls_certcheck.proofs.lent.Here.lend.Goals as goal

pub returns-in_err-line : goal.returns-in_err-line
returns-in_err-line g c =
    let p = err_from_is_err_and c.from_residual.result c.from_residual.ensures.1 in
    let split = ap (map (λ (k : Rule × LentFlow). line_of c.args.self.now k.0 k.1))
    (drop_here c.args.lines.now c.loop-lent.lent-index c.lent-item.result c.loop-lent-test.true c.lent-item.is) in
    rw (p.1, p.2) (c.loop-lent.invariant (Err _) _ (same_lines g.V.Visit.visits (sym split)
    (g.met.V.Visit.stops _ _ _ _ _ c.in_err-line.ensures)))

pub loop-lent-preserved : goal.loop-lent-preserved
loop-lent-preserved g c =
    let split = ap (map (λ (k : Rule × LentFlow). line_of c.args.self.now k.0 k.1))
    (drop_here c.args.lines.now c.loop-lent.lent-index c.lent-item.result c.loop-lent-test.true c.lent-item.is) in
    λ r w more. c.loop-lent.invariant r w (same_lines g.V.Visit.visits (sym split)
    (g.met.V.Visit.more _ _ _ _ _ _ c.in_ok-line.ensures more))
