use Rattle.std.proofs.Common.{[], take, sym, ◌∙◌, subst, arith, take_all}
use Rattle.mls_explain.specs.Search.{IsRound}
use Rattle.mls_explain.proofs.SearchLemmas.{up_to, round_none}
use Rattle.mls_explain.proofs.search.Search.next.Goals as goal

pub loop-entry-init : goal.loop-entry-init
loop-entry-init c =
    let tails = c.args.self.now.tails.items in
    subst (λ ts. IsRound tails [] ts c.empty-next.result.left.items) (sym c.empty-next.ensures.tails)
    (subst (λ ls. IsRound tails [] [] ls) (sym c.empty-next.ensures.left) (round_none tails))

pub loop-entry-preserved : goal.loop-entry-preserved
loop-entry-preserved c =
    let k = c.loop-entry in
    let tails = c.args.self.now.tails.items in
    let items = c.deref-entry-items.result.now in
    let next = c.step_to.new.next in
    up_to (λ ls. IsRound tails ls next.tails.items next.left.items) items k.entry-index c.entry-item.result c.loop-entry-test.true c.entry-item.is
    (c.in_ok-step_to.ensures (take k.entry-index items) k.invariant)

pub returns : goal.returns
returns c =
    let k = c.loop-entry in
    let s = c.args.self.now in
    let items = c.deref-entry-items.result.now in
    subst (λ ls. IsRound s.tails.items ls k.next.tails.items k.next.left.items) (take_all k.entry-index items
    (omega (arith, c.loop-entry-test.false)) ∙ c.deref-entry-items.ensures.value) k.invariant
