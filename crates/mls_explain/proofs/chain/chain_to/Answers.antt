use Rattle.std.proofs.Common.{◌≡◌, suc, false, List, length, sym, ◌∙◌, subst, arith, Contains, eqb-true}
use Rattle.std.specs.List.{AllByRecursion}
use Rattle.mls_labeller.specs.Flows.{body_lines}
use Rattle.mls_explain.specs.Steps.{steps}
use Rattle.mls_explain.specs.declared.search.Tail.{Tail}
use Rattle.mls_explain.specs.Chains.{is_root, IsBroken, IsShortestChain}
use Rattle.mls_explain.proofs.SearchLemmas.{round_done, root_found, none_found}
use Rattle.mls_explain.proofs.chain.chain_to.Goals as goal

pub loop-labeller-init : goal.loop-labeller-init
loop-labeller-init c = (0, c.in_ok-search.ensures c.args.policy.now)

pub loop-labeller-preserved : goal.loop-labeller-preserved
loop-labeller-preserved c =
    let p = c.args.policy.now in
    let tx = c.args.tx.now in
    let n = c.loop-labeller.invariant.0 in
    let s = c.loop-labeller.search in (
      suc n,
      round_done p tx (steps tx) (IsBroken tx.hi
          (body_lines tx) c.args.broken) n s.tails.items s.left.items c.loop-labeller.invariant.1 _ _ c.in_ok-search-2.ensures (subst (AllByRecursion (λ t. is_root p tx t.limit t.root ≡ false)) c.deref.ensures.value (c.tail_with_root.ensures.none c.in_default.is)),
    )

pub returns-in-Some : goal.returns-in-Some
returns-in-Some c =
    let p = c.args.policy.now in
    let tx = c.args.tx.now in
    let s = c.loop-labeller.search in
    let found = c.in-Some.ensures.found in
    subst (IsShortestChain p tx (steps tx) (IsBroken tx.hi (body_lines tx) c.args.broken)) (sym c.in_ok-chain.ensures)
    (root_found p tx (steps tx) (IsBroken tx.hi
    (body_lines tx) c.args.broken) c.loop-labeller.invariant.0 s.tails.items s.left.items c.loop-labeller.invariant.1 c.in-Some.tail.now (subst (λ (ts : List Tail). Contains ts c.in-Some.tail.now) c.deref.ensures.value found.0) found.1)

pub returns : goal.returns
returns c =
    let p = c.args.policy.now in
    let tx = c.args.tx.now in
    let s = c.loop-labeller.search in
    let none : length s.tails.items ≡ 0 = omega (
      arith,
      eqb-true s.tails.len 0 (sym c.is_empty.ensures
          ∙ c.loop-labeller-test.false),
      s.tails.ok.0,
    ) in
    none_found p tx (steps tx) (IsBroken tx.hi
    (body_lines tx) c.args.broken) c.loop-labeller.invariant.0 s.tails.items s.left.items c.loop-labeller.invariant.1 none
