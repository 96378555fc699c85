use Rattle.std.proofs.Common.{ap, ◌∙◌, ◌++◌, ◌<◌, ◌≤◌, List, ℕ, length, string_bytes, subst, flat_map, take_all}
use Rattle.mls_scheme.specs.Canon.{attribute_line}
use Rattle.mls_scheme.proofs.CanonLemmas.{column_among, lines_more}
use Rattle.mls_scheme.proofs.canon.attributes_to.Goals as goal

pub name-requires : goal.name-requires
name-requires c = subst (λ n. c.loop-place.place < n) c.len-place-end.ensures c.loop-place-test.true

pub get-requires : goal.get-requires
get-requires c = subst (λ n. c.loop-place.place < n) c.len-place-end.ensures c.loop-place-test.true

pub attribute_to-requires-clause-low : goal.attribute_to-requires-clause-low
attribute_to-requires-clause-low c = (column_among
    (length c.args.policy.now.labels) c.args.attributes.now c.loop-place.place c.get.result.now c.requires c.get.ensures).0

pub attribute_to-requires-clause-high : goal.attribute_to-requires-clause-high
attribute_to-requires-clause-high c = (column_among
    (length c.args.policy.now.labels) c.args.attributes.now c.loop-place.place c.get.result.now c.requires c.get.ensures).1

pub loop-place-preserved : goal.loop-place-preserved
loop-place-preserved c =
    let line = attribute_line c.args.policy.now c.args.word.now in
    c.in_ok-attribute_to.ensures
    ∙ ap (λ (x : List ℕ). x ++ line (c.name.result.now, c.get.result.now)) c.loop-place.invariant
    ∙ lines_more line c.args.attributes.now c.loop-place.place c.name.result.now c.get.result.now _ c.name.ensures c.get.ensures

pub returns : goal.returns
returns c =
    let past = subst (λ n. n ≤ c.loop-place.place) c.len-place-end.ensures c.loop-place-test.false in
    c.loop-place.invariant
    ∙ ap (λ l. string_bytes c.args.text.now ++ flat_map (attribute_line c.args.policy.now c.args.word.now) l)
    (take_all c.loop-place.place c.args.attributes.now past)
