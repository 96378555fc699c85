use Rattle.std.proofs.Common.{◌++◌, [], ◌∷◌, ℕ, List, take, string_bytes, sym, ap, ◌∙◌}
use Rattle.std.proofs.lemmas.List.{take_more}
use Rattle.mls_scheme.specs.Scheme.{Attribute}
use Rattle.mls_scheme.specs.Named.{has_name}
use Rattle.mls_scheme.proofs.CanonLemmas.{attribute_there}
use Rattle.mls_scheme.proofs.OlderLemmas.{first_new}
use Rattle.mls_scheme.proofs.attributes.first_of.Goals as goal

pub push-requires : goal.push-requires
push-requires c =
    let all = c.args.attributes.now in
    let i = c.loop-place.place in
    ap (λ (xs : List Attribute). has_name xs (string_bytes c.in_ok-name.name)) c.loop-place.invariant
    ∙ ap (λ (n : List ℕ). has_name (take i all) n) c.in_ok-name.ensures.ok
    ∙ first_new all i c.name.result.now c.get.result.now c.requires.distinct c.name.ensures c.get.ensures

pub loop-place-preserved : goal.loop-place-preserved
loop-place-preserved c =
    let all = c.args.attributes.now in
    let i = c.loop-place.place in
    let a : Attribute = (c.name.result.now, c.get.result.now) in
    let there = attribute_there all i c.name.result.now c.get.result.now c.name.ensures c.get.ensures in
    c.in_ok-push.ensures
    ∙ ap (λ (xs : List Attribute). xs ++ (string_bytes c.in_ok-name.name, c.get.result.now) ∷ []) c.loop-place.invariant
    ∙ ap (λ (n : List ℕ). take i all ++ (n, c.get.result.now) ∷ []) c.in_ok-name.ensures.ok
    ∙ ap (λ (x : Attribute). take i all ++ x ∷ []) there.0
    ∙ sym (take_more all i a there.1)
