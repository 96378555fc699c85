use Rattle.std.proofs.Common.{[], refl, sym, take, subst, arith, take_all}
use Rattle.mls_explain.specs.Chains.{IsBroken}
use Rattle.mls_explain.specs.Search.{IsUnderway}
use Rattle.mls_explain.proofs.SearchLemmas.{up_to, start_none, start_other, start_more}
use Rattle.mls_explain.proofs.search.Search.start.Goals as goal

pub loop-line-init : goal.loop-line-init
loop-line-init c = λ p tx.
    let none = start_none p tx c.args.steps.now c.args.hi c.args.broken in
    subst (λ ts. IsUnderway p tx c.args.steps.now
    (IsBroken c.args.hi [] c.args.broken) 0 ts c.empty-search.result.left.items) (sym c.empty-search.ensures.tails)
    (subst (λ ss. IsUnderway p tx c.args.steps.now (IsBroken c.args.hi [] c.args.broken) 0 [] ss)
    (sym c.empty-search.ensures.left) none)

pub loop-line-preserved-then-not-is_same : goal.loop-line-preserved-then-not-is_same
loop-line-preserved-then-not-is_same c = λ p tx.
    let k = c.loop-line in
    let ls = c.args.lines.now in
    let l = c.line-item.result in
    up_to (λ seen. IsUnderway p tx c.args.steps.now
    (IsBroken c.args.hi seen c.args.broken) 0 k.search.tails.items k.search.left.items) ls k.line-index l c.loop-line-test.true c.line-item.is
    (start_other p tx c.args.steps.now c.args.hi c.args.broken
    (take k.line-index ls) l k.search.tails.items k.search.left.items (k.invariant p tx)
    (c.if-not-is_same.ensures.no refl))

pub loop-line-preserved : goal.loop-line-preserved
loop-line-preserved c = λ p tx.
    let k = c.loop-line in
    let ls = c.args.lines.now in
    let l = c.line-item.result in
    let more = c.line_to.new.self in
    up_to (λ seen. IsUnderway p tx c.args.steps.now
    (IsBroken c.args.hi seen c.args.broken) 0 more.tails.items more.left.items) ls k.line-index l c.loop-line-test.true c.line-item.is
    (start_more p tx c.args.steps.now c.args.hi c.args.broken
    (take k.line-index ls) l k.search.tails.items k.search.left.items
    (k.invariant p tx) more.tails.items more.left.items c.in_ok-line_to.ensures.tails c.in_ok-line_to.ensures.left
    (c.if-not-is_same.ensures.yes refl))

pub returns : goal.returns
returns c = λ p tx.
    let k = c.loop-line in
    subst (λ seen. IsUnderway p tx c.args.steps.now
    (IsBroken c.args.hi seen c.args.broken) 0 k.search.tails.items k.search.left.items)
    (take_all k.line-index c.args.lines.now (omega (arith, c.loop-line-test.false))) (k.invariant p tx)
