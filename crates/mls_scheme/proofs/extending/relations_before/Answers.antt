use Rattle.std.proofs.Common.{◌≡◌, ◌+◌, ◌∷◌, ℕ, List, drop, sym, ap, ◌∙◌, subst}
use Rattle.std.proofs.lemmas.List.{drop_all, drop_more}
use Rattle.mls_scheme.specs.Scheme.{Scheme}
use Rattle.mls_scheme.proofs.ExtendingLemmas.{Before, before-more, before-none, before-all, before-left, empty_of, full_of, none_has, some_has, some_is}
use Rattle.mls_scheme.proofs.extending.relations_before.Goals as goal

pub returns-in_default-clause-none : goal.returns-in_default-clause-none
returns-in_default-clause-none c =
    let all = c.args.relations.now in
    let i = c.loop-scheme.scheme-index in
    let s = c.scheme-item.result in
    let rest = c.loop-scheme.rest.now in
    let here : drop i all ≡ s ∷ drop (i + 1) all = drop_more all i s c.loop-scheme-test.true
    ∙ ap (λ (x : Scheme). x ∷ drop (i + 1) all) (sym c.scheme-item.is) in
    let before = subst (λ (xs : List Scheme). Before c.args.policy.now all c.args.text.now c.loop-scheme.counts.items xs rest) here c.loop-scheme.invariant in
    λ e. before-none c.args.policy.now all c.args.text.now c.loop-scheme.counts.items s (drop (i + 1) all) rest before
    (full_of rest (sym c.is_empty.ensures ∙ c.if-is_empty.false))
    (λ m other past begins. none_has _ _ c.in_default.is (c.in_ok-count.ensures.only m other past begins))

pub loop-scheme-preserved : goal.loop-scheme-preserved
loop-scheme-preserved c =
    let all = c.args.relations.now in
    let i = c.loop-scheme.scheme-index in
    let s = c.scheme-item.result in
    let rest = c.loop-scheme.rest.now in
    let here : drop i all ≡ s ∷ drop (i + 1) all = drop_more all i s c.loop-scheme-test.true
    ∙ ap (λ (x : Scheme). x ∷ drop (i + 1) all) (sym c.scheme-item.is) in
    let before = subst (λ (xs : List Scheme). Before c.args.policy.now all c.args.text.now c.loop-scheme.counts.items xs rest) here c.loop-scheme.invariant in
    subst (λ (counts : List ℕ). Before c.args.policy.now all c.args.text.now counts
    (drop (i + 1) all) c.in-Some.after.now) (sym c.in_ok-push.ensures.items)
    (before-more c.args.policy.now all c.args.text.now c.loop-scheme.counts.items s
    (drop (i + 1) all) rest c.in-Some.count c.in-Some.after.now before
    (some_has _ _ _ c.in-Some.is c.in_ok-count.ensures.found)
    (λ m other past begins. some_is _ _ _ c.in-Some.is (c.in_ok-count.ensures.only m other past begins)))

pub returns-then-is_empty-clause-found : goal.returns-then-is_empty-clause-found
returns-then-is_empty-clause-found c =
    let all = c.args.relations.now in
    let rest = c.loop-scheme.rest.now in
    before-all c.args.policy.now all c.args.text.now c.loop-scheme.counts.items
    (drop c.loop-scheme.scheme-index all) rest c.loop-scheme.invariant (empty_of rest (sym c.is_empty.ensures
    ∙ c.if-is_empty.true))

pub returns-then-is_empty-2-clause-found : goal.returns-then-is_empty-2-clause-found
returns-then-is_empty-2-clause-found c =
    let all = c.args.relations.now in
    let rest = c.loop-scheme.rest.now in
    before-all c.args.policy.now all c.args.text.now c.loop-scheme.counts.items
    (drop c.loop-scheme.scheme-index all) rest c.loop-scheme.invariant (empty_of rest (sym c.is_empty-2.ensures
    ∙ c.if-is_empty-2.true))

pub returns-else-is_empty-2-clause-none : goal.returns-else-is_empty-2-clause-none
returns-else-is_empty-2-clause-none c =
    let all = c.args.relations.now in
    let rest = c.loop-scheme.rest.now in
    let over = drop_all c.loop-scheme.scheme-index all c.loop-scheme-test.false in
    let before = subst (λ (xs : List Scheme). Before c.args.policy.now all c.args.text.now c.loop-scheme.counts.items xs rest) over c.loop-scheme.invariant in
    λ e. before-left c.args.policy.now all c.args.text.now c.loop-scheme.counts.items rest before
    (full_of rest (sym c.is_empty-2.ensures ∙ c.if-is_empty-2.false))
