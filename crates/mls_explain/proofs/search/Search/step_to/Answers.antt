use Rattle.std.proofs.Common.{[], ◌∷◌, ◌++◌, List, refl, sym, ap, ◌∙◌, subst, Contains}
use Rattle.std.specs.List.{AllByRecursion}
use Rattle.mls_explain.specs.declared.search.Tail.{Tail}
use Rattle.mls_explain.specs.Search.{longer, IsAt, IsTaken, IsRound}
use Rattle.mls_explain.proofs.SearchLemmas.{round_taken, round_left}
use Rattle.mls_explain.proofs.search.Search.step_to.Goals as goal

pub returns-in_default : goal.returns-in_default
returns-in_default c = λ seen round.
    let tails = c.args.self.now.tails.items in
    let next = c.args.next.now in
    let l = c.args.entry in
    let none = subst (AllByRecursion (λ a. IsAt l.0 l.1.target a → ⊥)) c.deref.ensures.value
    (c.tail_at.ensures.none c.in_default.is) in
    subst (λ ls. IsRound tails (seen ++ l ∷ []) next.tails.items ls) (sym c.in_ok-push.ensures.items)
    (round_left tails seen l next.tails.items next.left.items round none)

pub returns : goal.returns
returns c = λ seen round.
    let tails = c.args.self.now.tails.items in
    let next = c.args.next.now in
    let l = c.args.entry in
    let tail = c.in-Some.tail.now in
    let found = c.in-Some.ensures.found in
    let among = subst (λ (ts : List Tail). Contains ts tail) c.deref.ensures.value found.0 in
    let taken : IsTaken tails l (longer tail l.1) = record { tail = tail; among = among; at = found.1; is = refl } in
    subst (λ ts. IsRound tails (seen ++ l ∷ []) ts next.left.items)
    (sym (c.in_ok-push-2.ensures.items ∙ ap (λ b. next.tails.items ++ b ∷ []) c.in_ok-longer.ensures))
    (round_taken tails seen l next.tails.items next.left.items round (longer tail l.1) taken)
