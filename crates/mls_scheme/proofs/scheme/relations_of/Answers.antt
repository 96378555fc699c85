use Rattle.std.proofs.Common.{◌<◌, ◌≤◌, ◌++◌, [], ◌∷◌, ℕ, List, length, get_or, take, arith, sym, ap, ◌∙◌, subst, take_all}
use Rattle.mls_scheme.specs.Scheme.{Scheme}
use Rattle.mls_scheme.specs.Extending.{scheme_before, schemes_before, AtMost}
use Rattle.mls_scheme.proofs.OlderLemmas.{counts_few, count_there, before_more}
use Rattle.mls_scheme.proofs.scheme.relations_of.Goals as goal

pub before-requires : goal.before-requires
before-requires c =
    let counts = c.args.counts.now in
    let i = c.loop-place.place in
    let test = c.if-place-counts.false in
    let within : i < length counts = omega (arith, test) in
    let there = count_there AtMost counts c.args.relations.now i 0 c.index-relations-place.result c.requires within in
    subst (λ (s : Scheme). AtMost (get_or counts i 0) s) (sym c.index-relations-place.is) there

pub loop-place-preserved : goal.loop-place-preserved
loop-place-preserved c =
    let counts = c.args.counts.now in
    let relations = c.args.relations.now in
    let i = c.loop-place.place in
    let test = c.if-place-counts.false in
    let within : i < length counts = omega (arith, test) in
    c.in_ok-push.ensures.items
    ∙ ap (λ (xs : List Scheme). xs ++ c.in_ok-copy.copy ∷ []) c.loop-place.invariant
    ∙ ap (λ (x : Scheme). schemes_before (take i counts) relations ++ x ∷ []) (c.in_ok-copy.ensures
    ∙ ap (λ (x : Scheme). scheme_before (get_or counts i 0) x) c.index-relations-place.is)
    ∙ sym (before_more counts relations i 0 c.index-relations-place.result within c.loop-place-test.true)

pub returns-then-place-counts : goal.returns-then-place-counts
returns-then-place-counts c =
    let counts = c.args.counts.now in
    let i = c.loop-place.place in
    let test = c.if-place-counts.true in
    let over : length counts ≤ i = omega (arith, test) in
    c.loop-place.invariant
    ∙ ap (λ (ns : List ℕ). schemes_before ns c.args.relations.now) (take_all i counts over)

pub returns : goal.returns
returns c =
    let counts = c.args.counts.now in
    let i = c.loop-place.place in
    let few = counts_few AtMost counts c.args.relations.now c.requires in
    let end = c.loop-place-test.false in
    let over : length counts ≤ i = omega (arith, few, end) in
    c.loop-place.invariant
    ∙ ap (λ (ns : List ℕ). schemes_before ns c.args.relations.now) (take_all i counts over)
